-- The words by which programs know why something is found.
use Rattle.std.specs.Prelude.{ℕ, List, codes}
use Rattle.l6_check.specs.declared.reason.Reason.{Reason}
use Rattle.l6_check.specs.declared.reason.Reason.TheVariants.{Form, Limit, TwiceLabelled, NoLabel, Warning}
use Rattle.l6_check.specs.declared.reason.FormReason.{FormReason}
use Rattle.l6_check.specs.declared.reason.FormReason.TheVariants as form
use Rattle.l6_check.specs.declared.reason.LimitReason.{LimitReason}
use Rattle.l6_check.specs.declared.reason.LimitReason.TheVariants as limit
use Rattle.l6_check.specs.declared.reason.WarningReason.{WarningReason}
use Rattle.l6_check.specs.declared.reason.WarningReason.TheVariants as warning

abbrev pub form_code : FormReason → List ℕ
form_code form.Column = codes "column-1"
form_code form.ContinuesNothing = codes "continues-nothing"
form_code form.LabelTooLong = codes "label-too-long"
form_code form.LabelBarred = codes "label-is-exit"
form_code form.Unclosed = codes "unclosed-group"
form_code form.Unopened = codes "unopened-group"
form_code (form.NoOperation fault) = codes "no-operation"
form_code (form.NoTest fault) = codes "no-test"
form_code form.TestForOperation = codes "test-for-operation"
form_code form.ConditionInColumn1 = codes "condition-in-column-1"
form_code form.OperationForTest = codes "operation-for-test"
form_code form.ThenMissing = codes "then-missing"
form_code form.SecondTest = codes "second-test"
form_code form.AfterExit = codes "after-exit"
form_code form.NoCondition = codes "no-condition"
form_code form.NoExit = codes "no-exit"
form_code form.NoThen = codes "no-then"
form_code form.Unfinished = codes "unfinished"
form_code form.UnfinishedBeforeThen = codes "unfinished-before-then"
form_code form.Unread = codes "unread"

abbrev pub limit_code : LimitReason → List ℕ
limit_code limit.Statements = codes "too-many-statements"
limit_code limit.Continuations = codes "too-many-continuations"
limit_code limit.Groups = codes "too-many-groups"

abbrev pub warning_code : WarningReason → List ℕ
warning_code warning.PastColumns = codes "past-column-72"
warning_code warning.LabelIsCondition = codes "label-is-condition"
warning_code warning.UnnamedLabel = codes "unnamed-label"
warning_code warning.UnreachedStatement = codes "unreached-statement"
warning_code (warning.AlwaysTraps trap) = codes "always-traps"
warning_code (warning.LaterTraps trap) = codes "always-traps"
warning_code warning.DecidesNothing = codes "decides-nothing"
warning_code warning.RunsOn = codes "runs-on"
warning_code (warning.UndefinedField field) = codes "undefined-field"
warning_code warning.ImageText = codes "image-text"

-- the word of a reason
abbrev pub code_of : Reason → List ℕ
code_of (Form reason) = form_code reason
code_of (Limit reason) = limit_code reason
code_of (TwiceLabelled card) = codes "label-twice"
code_of (NoLabel missing) = codes "no-label"
code_of (Warning reason) = warning_code reason
