-- Breakpoints that entries ask for, and what is said of them, with one entry more.
use Rattle.std.proofs.Common.{◌≡◌, ◌<◌, ℕ, suc, ◌+◌, List, [], ◌∷◌, ◌++◌, length, take, Result, sym, ap, ◌∙◌, arith}
use Rattle.std.specs.List.{cons_option}
use Rattle.std.specs.Result.{result_ok}
use Rattle.std.proofs.Math.ListN.{get_or}
use Rattle.std.proofs.Math.Seq.{take-suc}
use Rattle.std.proofs.lemmas.List.{map-append}
use Rattle.std.proofs.lemmas.List.Elements.{filter_map-append}
use Rattle.serde_json.specs.Data.{Data}
use Rattle.l6_session.specs.Names.{Names}
use Rattle.l6_dap.specs.Breakpoints.{all_asked, all_said, asked, said_of}
use Rattle.l6_dap.specs.declared.breakpoints.Kind.{Kind}
use Rattle.l6_dap.specs.declared.breakpoints.Unset.{Unset}
use Rattle.l6_dap.specs.declared.debuggee.Breakpoint.{Breakpoint}

pub taken_next : {A : Type 0} (xs : List A) (i : ℕ) (x : A) → i < length xs → x ≡ get_or xs i x →
    take (i + 1) xs ≡ take i xs ++ x ∷ []
taken_next xs i x within is =
    let after : i + 1 ≡ suc i = omega arith in
    ap (λ n. take n xs) after ∙ take-suc xs i x within ∙ ap (λ y. take i xs ++ y ∷ []) (sym is)

pub asked_next : (kind : Kind) (names : Names) (before : List Data) (entry : Data) (entries : List Data)
    (wanted next : List Breakpoint) (answer : Result Breakpoint Unset) → entries ≡ before ++ entry ∷ [] →
    answer ≡ asked kind names entry → wanted ≡ all_asked kind names before →
    next ≡ wanted ++ cons_option (result_ok answer) [] → next ≡ all_asked kind names entries
asked_next kind names before entry entries wanted next answer are is was more =
    more ∙ ap (λ (it : List Breakpoint). it ++ cons_option (result_ok answer) []) was
    ∙ ap (λ (it : Result Breakpoint Unset). all_asked kind names before ++ cons_option (result_ok it) []) is
    ∙ sym (filter_map-append (λ (it : Data). result_ok (asked kind names it)) before (entry ∷ []))
    ∙ ap (λ (it : List Data). all_asked kind names it) (sym are)

pub said_next : (kind : Kind) (path : List ℕ) (names : Names) (before : List Data) (entry : Data) (entries : List Data)
    (said next : List Data) (one : Data) (answer : Result Breakpoint Unset) → entries ≡ before ++ entry ∷ [] →
    answer ≡ asked kind names entry → one ≡ said_of path names answer → said ≡ all_said kind path names before →
    next ≡ said ++ one ∷ [] → next ≡ all_said kind path names entries
said_next kind path names before entry entries said next one answer are is is_said was more =
    more ∙ ap (λ (it : List Data). it ++ one ∷ []) was
    ∙ ap (λ (it : Data). all_said kind path names before ++ it ∷ []) is_said
    ∙ ap (λ (it : Result Breakpoint Unset). all_said kind path names before ++ said_of path names it ∷ []) is
    ∙ sym (map-append (λ (it : Data). said_of path names (asked kind names it)) before (entry ∷ []))
    ∙ ap (λ (it : List Data). all_said kind path names it) (sym are)
