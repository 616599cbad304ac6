-- A session that joins again by the lines of a script.
use Rattle.std.proofs.Common.{◌≡◌, ℕ, [], subst, ◌∙◌}
use Rattle.round_model.specs.Views.{ViewSeen}
use Rattle.script_model.specs.declared.orders.Order.TheVariants as orders
use Rattle.token_words.specs.Changes.{SetAt}
use Rattle.run_model.specs.Worlds.{World}
use Rattle.run_model.specs.States.{State}
use Rattle.run_model.specs.Lines.{DidOpen, DidView, Does}
use Rattle.resumed_model.specs.Rejoins.{recounted, Rejoin, NoneRejoins, OneRejoins, RejoinsAs}

-- it opens, its view is set, and it counts its frames on
pub rejoins_by : (w now : World) (a b c d : State) (i frames : ℕ) (view : ViewSeen) → now ≡ w
    → Does w a (orders.Open i) (DidOpen i) b → Does now b (orders.View i view) (DidView i) c → d ≡ recounted c i frames
    → RejoinsAs i frames view w a d
rejoins_by w now a b c d i frames view same opens views is =
    OneRejoins (record { session = i; frames = frames; view = view }) opens
    (subst (λ (v : World). Does v b (orders.View i view) (DidView i) c) same views)
    (subst (λ (x : State). Rejoin w x [] d) is NoneRejoins)

-- what is set twice is as it was set last
pub set_twice : {A : Type 0} (f g h : ℕ → A) (i : ℕ) (x y : A) → SetAt f i x g → SetAt g i y h → SetAt f i y h
set_twice f g h i x y first second = record {
  here = second.here;
  others = λ j ne. second.others j ne ∙ first.others j ne;
}
