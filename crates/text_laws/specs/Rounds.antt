-- One list of epochs that are all 1 makes a round whole: of two such lists one is the beginning of the
-- other, and a round that is through leaves over what follows.
use Rattle.std.proofs.Common.{◌≡◌, ℕ, ◌⊎◌, List, [], ◌∷◌, ◌++◌, refl, sym, ap, subst, ◌∙◌, append-nil, inl, inr}
use Rattle.std.specs.List.{AllByRecursion}
use Rattle.round_model.specs.Order.{Rules}
use Rattle.round_model.specs.Rounds.{RoundState, round_of, IsWhole}
use Rattle.round_laws.specs.Epochs.{round_through}
use Rattle.still_texts.specs.Full.{IsGranted}

-- each epoch is 1, which grants its try
abbrev AllGranted : List ℕ → Type 0
AllGranted epochs = AllByRecursion (λ epoch. epoch ≡ 1) epochs

-- the first list is the beginning of the second
abbrev Begins : List ℕ → List ℕ → Type 0
Begins epochs others = (more : List ℕ) × (others ≡ epochs ++ more)

begins_after : (epoch other : ℕ) (epochs others : List ℕ) → epoch ≡ other → Begins epochs others → Begins (epoch ∷ epochs) (other ∷ others)
begins_after epoch other epochs others same (more, is) = (more, λ i. sym same i ∷ is i)

one_begins : (epochs others : List ℕ) → AllGranted epochs → AllGranted others → Begins epochs others ⊎ Begins others epochs
one_begins [] others h k = inl (others, refl)
one_begins (epoch ∷ epochs) [] h k = inr (epoch ∷ epochs, refl)
one_begins (epoch ∷ epochs) (other ∷ others) h k =
    elim (one_begins epochs others h.1 k.1) [
      | inl begins ↦ inl (begins_after epoch other epochs others (h.0 ∙ sym k.0) begins)
      | inr begins ↦ inr (begins_after other epoch others epochs (k.0 ∙ sym h.0) begins)
    ]

-- a round that is whole has no use for more
none_more : (rules : Rules) (epochs more : List ℕ) → IsWhole (round_of rules epochs) → IsWhole (round_of rules (epochs ++ more)) → more ≡ []
none_more rules epochs more whole longer =
    ap (λ (unused : List ℕ). unused ++ more) (sym whole.used) ∙ ap (λ (stand : RoundState). stand.unused) (sym (round_through rules epochs more whole.through)) ∙ longer.used

whole_is_one : (rules : Rules) (epochs others : List ℕ) → IsWhole (round_of rules epochs) → IsWhole (round_of rules others) → Begins epochs others → epochs ≡ others
whole_is_one rules epochs others whole other (more, is) =
    let none = none_more rules epochs more whole (subst (λ (xs : List ℕ). IsWhole (round_of rules xs)) is other) in
    sym (append-nil epochs) ∙ ap (λ (xs : List ℕ). epochs ++ xs) (sym none) ∙ sym is

pub granted_is_one : (rules : Rules) (epochs others : List ℕ) → IsGranted rules epochs → IsGranted rules others → epochs ≡ others
granted_is_one rules epochs others h k =
    elim (one_begins epochs others h.granted k.granted) [
      | inl begins ↦ whole_is_one rules epochs others h.whole k.whole begins
      | inr begins ↦ sym (whole_is_one rules others epochs k.whole h.whole begins)
    ]
