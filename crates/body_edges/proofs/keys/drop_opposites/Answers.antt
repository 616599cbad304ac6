-- Each key is kept, or goes with the last one that was.
use Rattle.std.proofs.Common.{◌≡◌, ◌∙◌, ℕ, ◌-◌, ◌<◌, false, List, length, get_or, sym, ap, subst, rules, arith}
use Rattle.std.proofs.lemmas.Grind.{get_or_default_zero}
use Rattle.body_edges.specs.Keys.{are_opposite}
use Rattle.body_edges.proofs.DropLaws.{drops_kept, drops_both, IsLeft, drops_all}
use Rattle.body_edges.proofs.keys.drop_opposites.Goals.{then-kept-gt0+then-is_opposite, else-kept-gt0, else-kept-gt0-via-then-kept-gt0+else-is_opposite, else-kept-gt0-via-else-kept-gt0}
use Rattle.body_edges.proofs.keys.drop_opposites.Goals as goal

apart_from : (keys : List ℕ) (place last key : ℕ) → place < length keys → last ≡ get_or keys place last → are_opposite last key ≡ false → are_opposite (get_or keys place 0) key ≡ false
apart_from keys place last key within at h =
    ap (λ (k : ℕ). are_opposite k key) (sym (get_or_default_zero keys place last within)) ∙ ap (λ (k : ℕ). are_opposite k key) (sym at) ∙ h

pub loop-place-preserved : goal.loop-place-preserved
loop-place-preserved c =
    let before : List ℕ = c.args.keys.now.items in
    let key : ℕ = c.index-key.result.now in
    elim c.if-kept-gt0.branch [
      | then-kept-gt0+then-is_opposite w ↦
          rw (w.keys-is, w.kept-is)
          (drops_both c.loop-place.kept c.loop-place.place c.loop-place.keys.items before key w.index.result.now (search rules) w.if-kept-gt0.true
          c.index-key.ensures w.index.ensures (sym w.is_opposite.ensures ∙ w.if-is_opposite.true) c.loop-place.invariant)
      | else-kept-gt0 w ↦
          rw (w.keys-is, w.kept-is)
          (drops_kept c.loop-place.kept c.loop-place.place c.loop-place.keys.items before key (search rules) c.index-key.ensures
          (elim w.else-kept-gt0.branch [
            | else-kept-gt0-via-then-kept-gt0+else-is_opposite v ↦
                λ some. apart_from c.loop-place.keys.items (c.loop-place.kept - 1) v.index.result.now key (search rules) v.index.ensures (sym v.is_opposite.ensures ∙ v.if-is_opposite.false)
            | else-kept-gt0-via-else-kept-gt0 v ↦ λ some. absurd (omega (arith, v.if-kept-gt0.false))
          ])
          c.loop-place.invariant)
    ]

left : (now items before : List ℕ) → items ≡ now → IsLeft now before → IsLeft items before
left now items before e h = subst (λ (keys : List ℕ). IsLeft keys before) (sym e) h

pub returns-clause-all : goal.returns-clause-all
returns-clause-all c =
    (left _ c.truncate.new.self.items c.args.keys.now.items c.truncate.ensures.items
    (drops_all c.loop-place.kept c.loop-place.place c.loop-place.keys.items c.args.keys.now.items (search rules) (search rules) c.loop-place.invariant)).all

pub returns-clause-net : goal.returns-clause-net
returns-clause-net c =
    (left _ c.truncate.new.self.items c.args.keys.now.items c.truncate.ensures.items
    (drops_all c.loop-place.kept c.loop-place.place c.loop-place.keys.items c.args.keys.now.items (search rules) (search rules) c.loop-place.invariant)).net

pub returns-clause-one_way : goal.returns-clause-one_way
returns-clause-one_way c =
    (left _ c.truncate.new.self.items c.args.keys.now.items c.truncate.ensures.items
    (drops_all c.loop-place.kept c.loop-place.place c.loop-place.keys.items c.args.keys.now.items (search rules) (search rules) c.loop-place.invariant)).one_way
