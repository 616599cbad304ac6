-- What the bytes that were read answer for all that there are.
use Rattle.std.proofs.Common.{◌≡◌, ℕ, ◌+◌, ◌-◌, ◌<◌, ◌≤◌, ◌⊎◌, true, List, [], ◌∷◌, ◌++◌, length, drop, Option, Some, None, Result, Ok, Err, IfSome, IfErr, MatchResult, refl, sym, ap, subst, ◌∙◌, inl, inr, append-nil, length-append, length-drop, nat_lt, arith}
use Rattle.std.proofs.lemmas.Bool.{cases_lt, lt-ltb}
use Rattle.view_outside.specs.OnlyRead.{OnlyIf}
use Rattle.text_model.specs.declared.faults.ScriptFault.{ScriptFault}
use Rattle.text_model.specs.declared.faults.ScriptFault.TheVariants.{TooLong}
use Rattle.script_model.specs.declared.limits.TheConstants.{MOST_SCRIPT}
use Rattle.script_model.specs.declared.modes.Mode.{Mode}
use Rattle.script_model.specs.declared.orders.Line.{Line}
use Rattle.script_model.specs.Scripts.{script_in}
use Rattle.view_script.specs.declared.refusals.ScriptRefusal.{ScriptRefusal}
use Rattle.view_script.specs.declared.refusals.ScriptRefusal.TheVariants.{Script, ReadFault, Memory}
use Rattle.view_script.specs.Answers.{Refuses, Gives, IfJudged, IsUnjudged, IsNotReadFault}
use Rattle.line_reader.specs.Reads.{IsFront, HasRead, ReadsThrough}

empty : (bytes : List ℕ) → length bytes ≡ 0 → bytes ≡ []
empty [] none_there = refl
empty (byte ∷ bytes) none_there = absurd (omega (arith, none_there))

-- the bytes are all, or they and all are too many
same_or_many : (most : ℕ) (all bytes : List ℕ) (left : Option (List ℕ)) → IsFront all bytes left → left ≡ Some (drop (most + 1) all) → length bytes ≤ most + 1 → (bytes ≡ all) ⊎ ((most < length bytes) × (most < length all))
same_or_many most all bytes left is through few =
    let same : is.behind ≡ drop (most + 1) all = let e = is.rest in cc in
    let whole : length all ≡ length bytes + length is.behind = ap length is.whole ∙ length-append bytes is.behind in
    let behind : length is.behind ≡ length all - (most + 1) = ap length same ∙ length-drop (most + 1) all in
    elim (cases_lt most (length bytes)) [
      | inl many ↦ inr (many, omega arith)
      | inr short ↦
          let none_behind : length is.behind ≡ 0 = omega arith in
          inl (sym (append-nil bytes) ∙ ap (λ bs. bytes ++ bs) (sym (empty is.behind none_behind)) ∙ sym is.whole)
    ]

too_long : (mode : Mode) (tiers : ℕ) (bytes : List ℕ) → MOST_SCRIPT < length bytes → script_in mode tiers bytes ≡ Err TooLong
unfolding script_in
too_long mode tiers bytes many = let long : nat_lt MOST_SCRIPT (length bytes) ≡ true = lt-ltb MOST_SCRIPT (length bytes) many in rw long

front_script : (mode : Mode) (tiers : ℕ) (all bytes : List ℕ) (left : Option (List ℕ)) → IsFront all bytes left → left ≡ Some (drop (MOST_SCRIPT + 1) all) → length bytes ≤ MOST_SCRIPT + 1 → script_in mode tiers bytes ≡ script_in mode tiers all
front_script mode tiers all bytes left is through few =
    elim (same_or_many MOST_SCRIPT all bytes left is through few) [
      | inl same ↦ ap (script_in mode tiers) same
      | inr many ↦ too_long mode tiers bytes many.0 ∙ sym (too_long mode tiers all many.1)
    ]

-- what was answered for the bytes that were read is answered for all
pub gives_all : {X : Type 0} (view : X → List Line) (mode : Mode) (tiers : ℕ) (told : Option (List ℕ)) (bytes : List ℕ) (left : Option (List ℕ)) (result : Result X ScriptRefusal) → HasRead told bytes left → ReadsThrough (MOST_SCRIPT + 1) told left → length bytes ≤ MOST_SCRIPT + 1
    → Gives view result (script_in mode tiers bytes) → IfSome told (λ all. Gives view result (script_in mode tiers all))
unfolding ReadsThrough
gives_all view mode tiers None bytes left result is through few gives = tt
gives_all view mode tiers (Some all) bytes left result is through few gives = subst (λ read. Gives view result read) (front_script mode tiers all bytes left is through few) gives

-- a refusal that is no fault of the script says nothing of it
pub unjudged_fact : (fact : Type 0) (refusal : ScriptRefusal) → IsUnjudged refusal → IfJudged fact refusal
unjudged_fact fact (Script fault) never = absurd never
unjudged_fact fact ReadFault never = tt
unjudged_fact fact Memory never = tt

unjudged : {Y : Type 0} (refusal : ScriptRefusal) (read : Result Y ScriptFault) → IsUnjudged refusal → Refuses refusal read
unjudged (Script fault) read never = absurd never
unjudged ReadFault read never = tt
unjudged Memory read never = tt

pub refuses_all : {Y : Type 0} (told : Option (List ℕ)) (reading : List ℕ → Result Y ScriptFault) (refusal : ScriptRefusal) → IsUnjudged refusal → IfSome told (λ all. Refuses refusal (reading all))
refuses_all None reading refusal never = tt
refuses_all (Some all) reading refusal never = unjudged refusal (reading all) never

if_judged : (fact : Type 0) (refusal : ScriptRefusal) → fact → IfJudged fact refusal
if_judged fact (Script fault) holds = holds
if_judged fact ReadFault holds = tt
if_judged fact Memory holds = tt

-- a fact holds whatever was answered
pub whatever : {X : Type 0} (fact : Type 0) (result : Result X ScriptRefusal) → fact → MatchResult result (λ _. fact) (IfJudged fact)
whatever fact (Ok x) holds = holds
whatever fact (Err refusal) holds = if_judged fact refusal holds

never_fails : (fact : Type 0) (refusal : ScriptRefusal) → IsNotReadFault refusal → OnlyIf ReadFault fact refusal
never_fails fact (Script fault) never is = absurd cc
never_fails fact ReadFault never is = absurd never
never_fails fact Memory never is = absurd cc

-- what reads no source has no failure of one
pub no_failure : {X : Type 0} (fact : Type 0) (result : Result X ScriptRefusal) → IfErr result IsNotReadFault → IfErr result (OnlyIf ReadFault fact)
no_failure fact (Ok x) never = tt
no_failure fact (Err refusal) never = never_fails fact refusal never
