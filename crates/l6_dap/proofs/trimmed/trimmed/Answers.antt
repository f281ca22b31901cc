use Rattle.std.proofs.Common.{◌∙◌, ap}
use Rattle.std.proofs.lemmas.Str.Ascii.{trim_ascii_start_is, trim_ascii_end_is}
use Rattle.l6_dap.specs.Trimmed.{without_end}
use Rattle.l6_dap.proofs.trimmed.trimmed.Goals as goal

pub returns : goal.returns
returns c =
    trim_ascii_end_is _ _ c.trim_ascii_end.ensures.value
    ∙ ap without_end (trim_ascii_start_is _ _ c.trim_ascii_start.ensures.value)
