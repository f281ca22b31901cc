-- What is shown of a variable, as it is kept.
use Rattle.l6_dap.specs.Variables as spec
use Rattle.l6_dap.specs.Variables.Shown.{word as shown_word, text as shown_text}
use Rattle.l6_dap.specs.declared.variable.Shown.{Shown}
use Rattle.l6_dap.specs.declared.variable.Shown.TheVariants.{Word, Text}

abbrev pub shown_of : Shown → spec.Shown
shown_of (Word content chain) = shown_word content chain.items
shown_of (Text bytes) = shown_text bytes.items
