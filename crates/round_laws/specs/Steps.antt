-- A round that stands at a patch moves on by one answer.
use Rattle.std.proofs.Common.{◌≡◌, ℕ, Bool, true, false, List, [], ◌∷◌, ◌++◌, Some, sym, ap, ◌∙◌, append_assoc}
use Rattle.std.proofs.lemmas.Bool.{cond-true, cond-false}
use Rattle.file_model.specs.declared.fields.Try.{Try}
use Rattle.round_model.specs.Order.{Rules}
use Rattle.file_model.specs.Tries.{is_odd}
use Rattle.round_model.specs.Tries.{Granted, OpenAt, Tried, with_try, tried_patches}
use Rattle.round_model.specs.Rounds.{NodeInProgress, RoundState, with_member, after_tries, round_from}
use Rattle.round_laws.specs.Answers.{with_granted, try_of, refused_at}
use Rattle.round_laws.specs.Epochs.{StandsAt}

refused_here : (p e : ℕ) (later more : List ℕ) → is_odd e ≡ false → tried_patches (p ∷ later) (e ∷ more) ≡ refused_at p e more
unfolding tried_patches
refused_here p e later more even = cond-false (is_odd e) (with_try (try_of p e) (tried_patches later more)) (refused_at p e more) even

granted_here : (p e : ℕ) (later more : List ℕ) → is_odd e ≡ true → tried_patches (p ∷ later) (e ∷ more) ≡ with_try (try_of p e) (tried_patches later more)
unfolding tried_patches
granted_here p e later more odd = cond-true (is_odd e) (with_try (try_of p e) (tried_patches later more)) (refused_at p e more) odd

last_granted : (p e : ℕ) (later more : List ℕ) → is_odd e ≡ true → later ≡ [] → tried_patches (p ∷ later) (e ∷ more) ≡ record { tries = try_of p e ∷ []; verdict = Granted; unused = more }
unfolding tried_patches
last_granted p e later more odd none = granted_here p e later more odd ∙ ap (λ (ps : List ℕ). with_try (try_of p e) (tried_patches ps more)) none

next_granted : (p e q : ℕ) (later rest : List ℕ) → is_odd e ≡ true → later ≡ q ∷ rest → tried_patches (p ∷ later) (e ∷ []) ≡ record { tries = try_of p e ∷ []; verdict = OpenAt q; unused = [] }
unfolding tried_patches
next_granted p e q later rest odd more = granted_here p e later [] odd ∙ ap (λ (ps : List ℕ). with_try (try_of p e) (tried_patches ps [])) more

module _ (rules : Rules) (vs : List ℕ) (start : List Bool) (begun : List Try) (epochs : List ℕ) (stand : RoundState) (hand : NodeInProgress) (at : StandsAt rules vs start begun epochs stand hand) where
  -- the tries with one more
  abbrev with_answer : ℕ → List Try
  with_answer epoch = stand.tries ++ try_of hand.patch epoch ∷ []

  with_answer_is : (epoch : ℕ) → at.earlier ++ (hand.granted ++ try_of hand.patch epoch ∷ []) ≡ with_answer epoch
  with_answer_is epoch = sym (append_assoc at.earlier hand.granted (try_of hand.patch epoch ∷ [])) ∙ ap (λ (ts : List Try). ts ++ try_of hand.patch epoch ∷ []) (sym at.tries)

  goes_on : (epoch : ℕ) (more : List ℕ) (tried : Tried) → tried_patches (hand.patch ∷ at.later) (epoch ∷ more) ≡ tried → round_from rules vs start begun (epochs ++ epoch ∷ more) ≡ after_tries stand.set at.earlier hand.node (with_granted hand.granted tried) (λ s t e. round_from rules at.rest s t e)
  goes_on epoch more tried is = at.on (epoch ∷ more) ∙ ap (λ (t : Tried). after_tries stand.set at.earlier hand.node (with_granted hand.granted t) (λ s t e. round_from rules at.rest s t e)) is

  -- the node misses, and the next is tried
  pub after_refusal : (epoch : ℕ) (more : List ℕ) → is_odd epoch ≡ false → round_from rules vs start begun (epochs ++ epoch ∷ more) ≡ round_from rules at.rest stand.set (with_answer epoch) more
  after_refusal epoch more even =
      goes_on epoch more (refused_at hand.patch epoch more) (refused_here hand.patch epoch at.later more even)
      ∙ ap (λ (ts : List Try). round_from rules at.rest stand.set ts more) (with_answer_is epoch)

  -- the node joins, and the next is tried
  pub after_last_grant : (epoch : ℕ) (more : List ℕ) → is_odd epoch ≡ true → at.later ≡ [] → round_from rules vs start begun (epochs ++ epoch ∷ more) ≡ round_from rules at.rest (with_member stand.set hand.node) (with_answer epoch) more
  after_last_grant epoch more odd none =
      goes_on epoch more (record { tries = try_of hand.patch epoch ∷ []; verdict = Granted; unused = more }) (last_granted hand.patch epoch at.later more odd none)
      ∙ ap (λ (ts : List Try). round_from rules at.rest (with_member stand.set hand.node) ts more) (with_answer_is epoch)

  -- the node's next patch is to be tried
  pub after_grant : (epoch next : ℕ) (rest : List ℕ) → is_odd epoch ≡ true → at.later ≡ next ∷ rest → round_from rules vs start begun (epochs ++ epoch ∷ []) ≡ record { set = stand.set; tries = with_answer epoch; at = Some (record { node = hand.node; granted = hand.granted ++ try_of hand.patch epoch ∷ []; patch = next }); unused = [] }
  after_grant epoch next rest odd more =
      goes_on epoch [] (record { tries = try_of hand.patch epoch ∷ []; verdict = OpenAt next; unused = [] }) (next_granted hand.patch epoch next at.later rest odd more)
      ∙ ap (λ (ts : List Try). record { set = stand.set; tries = ts; at = Some (record { node = hand.node; granted = hand.granted ++ try_of hand.patch epoch ∷ []; patch = next }); unused = [] }) (with_answer_is epoch)
