-- Columns that are on a card.
use Rattle.std.specs.Prelude.{◌<◌, ◌≤◌, All}
use Rattle.l6_card.specs.Numerals.{card_width}
use Rattle.l6_check.specs.declared.finding.Finding.{Finding}
use Rattle.l6_check.specs.declared.finding.Span.{Span}
use Rattle.l6_check.specs.declared.findings.Findings.{Findings}

-- the columns are some of those of a card that count
abbrev pub IsOnCard : Span → Type 0
IsOnCard span = (span.from < span.to) × (span.to ≤ card_width)

-- the finding is about columns of its card that count
abbrev pub IsOnItsCard : Finding → Type 0
IsOnItsCard finding = IsOnCard finding.span

-- each finding that is kept is
abbrev pub AreOnTheirCards : Findings → Type 0
AreOnTheirCards findings = All IsOnItsCard findings.kept.items

-- if each finding that was kept is, each that is kept now is, too
abbrev pub StayOnTheirCards : Findings → Findings → Type 0
StayOnTheirCards before after = AreOnTheirCards before → AreOnTheirCards after
