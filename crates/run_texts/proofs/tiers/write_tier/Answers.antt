use Rattle.std.proofs.Common.{◌≡◌, ℕ, List, [], ◌∷◌, map, subst, ◌∙◌, codes}
use Rattle.std.specs.Fmt.{decimal}
use Rattle.std.proofs.lemmas.Result.{on_ok_weaker}
use Rattle.tier_model.specs.declared.turns.Coming.{Coming}
use Rattle.text_model.specs.Lines.{Adds, spaced, decimals}
use Rattle.frame_writer.specs.Appending.{Adds-line, Adds-words}
use Rattle.run_model.specs.Lines.{TierStatus, tier_status}
use Rattle.run_model.specs.LineTexts.{tier_line}
use Rattle.run_texts.proofs.tiers.write_tier.Goals as goal

abbrev named : ℕ → ℕ → ℕ → ℕ → List (List ℕ) → List (List ℕ)
named number budget load held words = decimal number ∷ codes "budget" ∷ decimal budget ∷ codes "load" ∷ decimal load ∷ codes "held" ∷ decimal held ∷ codes "coming" ∷ words

told_line : {a b c d e : List ℕ} (k : ℕ) (t : TierStatus) (number budget load held : ℕ) → number ≡ k → budget ≡ t.budget → load ≡ t.load → held ≡ t.held → Adds a b (codes "tier") → Adds b c (spaced (named number budget load held [])) → Adds c d (spaced (decimals t.coming)) → Adds d e (10 ∷ [])
    → Adds a e (tier_line k t)
unfolding tier_line
told_line k t number budget load held of_number of_budget of_load of_held first parts coming end =
    rw (← of_number, ← of_budget, ← of_load, ← of_held) (Adds-line (named number budget load held (decimals t.coming)) first (Adds-words (named number budget load held []) (decimals t.coming) parts coming) end)

pub returns-clause-ok : goal.returns-clause-ok
returns-clause-ok c =
    let t = tier_status c.args.tier.now.state in
    on_ok_weaker c.end_line.result (told_line c.args.number t c.from.result c.budget.result c.load.result c.from-2.result c.from.ensures c.budget.ensures.value c.load.ensures.value (c.from-2.ensures ∙ c.held_count.ensures) c.in_ok-begin_line.ensures.ok c.in_ok-add_parts.ensures.ok
    (subst (λ (coming : List Coming). Adds c.add_parts.new.out.items c.write_coming.new.out.items (spaced (decimals (map (λ (one : Coming). one.patch) coming)))) c.coming.ensures c.in_ok-write_coming.ensures.ok)) c.end_line.ensures.ok
