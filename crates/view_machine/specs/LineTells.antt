-- What a line did, with the text that it prints.
use Rattle.std.proofs.Common.{◌≡◌, ℕ, ◌+◌, List, [], ◌∷◌, ◌++◌, length, sym, ap, ◌∙◌, append-nil, append_assoc, arith}
use Rattle.script_model.specs.declared.orders.Order.{Order}
use Rattle.tier_model.specs.declared.turns.Turn.{Turn}
use Rattle.run_model.specs.Worlds.{World}
use Rattle.run_model.specs.States.{State}
use Rattle.run_model.specs.Lines.{TierStatus, Did, Does}
use Rattle.run_model.specs.LineTexts.{turn_line, turn_lines, tier_line, tier_lines, IsTextOf}

-- the line does this in the state, and prints the text
pub record DoesLine (w : World) (order : Order) (a b : State) (text : List ℕ) : Type 0 where
  pub did : Did
  pub does : Does w a order did b
  pub is : IsTextOf did text

-- ---- texts of turns and of tiers, one line more

pub one_turn : (k : ℕ) (answer : Turn) → turn_lines ((k, answer) ∷ []) ≡ turn_line k answer
unfolding turn_lines
one_turn k answer = append-nil (turn_line k answer)

pub turn_more : (turns : List (ℕ × Turn)) (turn : ℕ × Turn) → turn_lines (turns ++ turn ∷ []) ≡ turn_lines turns ++ turn_line turn.0 turn.1
unfolding turn_lines
turn_more [] turn = append-nil (turn_line turn.0 turn.1)
turn_more (t ∷ ts) turn = ap (λ (text : List ℕ). turn_line t.0 t.1 ++ text) (turn_more ts turn) ∙ sym (append_assoc (turn_line t.0 t.1) (turn_lines ts) (turn_line turn.0 turn.1))

pub tier_more : (k n : ℕ) (tiers : List TierStatus) (tier : TierStatus) → k + length tiers ≡ n → tier_lines k (tiers ++ tier ∷ []) ≡ tier_lines k tiers ++ tier_line n tier
unfolding tier_lines
tier_more k n [] tier is = append-nil (tier_line k tier) ∙ ap (λ (m : ℕ). tier_line m tier) (here k n is)
  where
    here : (k n : ℕ) → k + 0 ≡ n → k ≡ n
    here k n is = omega arith
tier_more k n (t ∷ ts) tier is =
    ap (λ (text : List ℕ). tier_line k t ++ text) (tier_more (k + 1) n ts tier (omega arith))
    ∙ sym (append_assoc (tier_line k t) (tier_lines (k + 1) ts) (tier_line n tier))
