-- Words of one command are no words of another.
use Rattle.std.proofs.Common.{◌≡◌, ℕ, suc, ◌+◌, ◌<◌, ◌≤◌, Bool, true, false, List, [], ◌∷◌, ◌++◌, length, map, drop, Option, Some, None, refl, sym, ap, ◌∙◌, append_assoc, append-nil, arith}
use Rattle.std.specs.Prelude.{codes, bytes_eq, option_map, slice_index_or, ◌==◌, if◌then◌else◌}
use Rattle.std.proofs.Math.ListN.{get_or-map, drop_of_length-le}
use Rattle.std.proofs.Math.Seq.{drop-cons}
use Rattle.std.proofs.lemmas.List.{length-map}
use Rattle.std.proofs.lemmas.Slice.Eq.{bytes_eq-Decides}
use Rattle.viewer_program.specs.declared.commands.FileCommand.{FileCommand}
use Rattle.viewer_program.specs.Commands.{command_in, command_named}
use Rattle.number_words.specs.Numbers.{number_in}
use Rattle.viewer_program.specs.declared.plays.TheConstants.{GREATEST_BUDGET}
use Rattle.viewer_program.specs.Playing.{PlaySeen, with_budget, budgets_in, play_in, play_named, play_with, wide_play_with, live_play_in}
use Rattle.strip_laws.specs.declared.limits.TheConstants.{MOST_COLUMNS}
use Rattle.viewer_program.specs.declared.strips.StripCommand.{StripCommand}
use Rattle.viewer_program.specs.declared.strips.StripCommand.TheVariants.{Make, Bench}
use Rattle.viewer_program.specs.Strips.{columns_from, strip_command_in}

abbrev no_seen : Option PlaySeen
no_seen = None

neither : (a b : Bool) → (if a then no_seen else if b then no_seen else no_seen) ≡ no_seen
neither true b = refl
neither false true = refl
neither false false = refl

abbrev no_known : Option FileCommand
no_known = None

abbrev no_strip_known : Option StripCommand
no_strip_known = None

nothing : (b : Bool) → (if b then no_known else no_known) ≡ no_known
nothing true = refl
nothing false = refl

-- the word of a command is none that names no command
is_another : (first name : List ℕ) (words : List (List ℕ)) (command : FileCommand) (other : List ℕ) → command_named first name words ≡ Some command → command_named other name words ≡ None → bytes_eq first other ≡ false
is_another first name words command other is none = by_test (bytes_eq first other) refl
  where
    by_test : (b : Bool) → bytes_eq first other ≡ b → bytes_eq first other ≡ false
    by_test true same =
        let e : None ≡ Some command = sym none ∙ ap (λ (w : List ℕ). command_named w name words) (sym ((bytes_eq-Decides first other).0 same)) ∙ is in
        absurd cc
    by_test false differ = differ

-- the words of a command are no words of a play
pub no_play : (words : List (List ℕ)) (command : FileCommand) → command_in words ≡ Some command → play_in words ≡ None
no_play [] command is = refl
no_play (a ∷ []) command is = refl
no_play (a ∷ b ∷ words) command is =
    ap (λ (t : Bool). if t then play_with b (Some 1) words else if bytes_eq a (codes "playw") then wide_play_with b words else no_seen) (is_another a b words command (codes "play") is (nothing (length b == 0)))
    ∙ ap (λ (t : Bool). if t then wide_play_with b words else no_seen) (is_another a b words command (codes "playw") is (nothing (length b == 0)))

-- nor those of a driver's run
pub no_live : (words : List (List ℕ)) (command : FileCommand) → command_in words ≡ Some command → live_play_in words ≡ None
no_live [] command is = refl
no_live (a ∷ []) command is = refl
no_live (a ∷ b ∷ words) command is =
    ap (λ (t : Bool). if t then play_with b (Some 1) words else no_seen) (is_another a b words command (codes "live") is (nothing (length b == 0)))

-- the words of a play are none of a driver's run
pub no_live_play : (words : List (List ℕ)) (play : PlaySeen) → play_in words ≡ Some play → live_play_in words ≡ None
no_live_play [] play is = refl
no_live_play (a ∷ []) play is = refl
no_live_play (a ∷ b ∷ words) play is = by_test (bytes_eq a (codes "live")) refl
  where
    by_test : (t : Bool) → bytes_eq a (codes "live") ≡ t → (if t then play_with b (Some 1) words else no_seen) ≡ no_seen
    by_test true same =
        let e : no_seen ≡ Some play = ap (λ (w : List ℕ). play_named w b words) (sym ((bytes_eq-Decides a (codes "live")).0 same)) ∙ is in
        absurd cc
    by_test false differ = refl

none_either : (t : Bool) → (if t then no_seen else no_seen) ≡ no_seen
none_either true = refl
none_either false = refl

-- those of a driver's run are none of a command over a strip
pub no_strip_live : (words : List (List ℕ)) (play : PlaySeen) → live_play_in words ≡ Some play → strip_command_in words ≡ None
no_strip_live [] play is = refl
no_strip_live (a ∷ []) play is = refl
no_strip_live (a ∷ b ∷ []) play is = let e : no_seen ≡ Some play = sym (none_either (bytes_eq a (codes "live"))) ∙ is in absurd cc
no_strip_live (a ∷ b ∷ c ∷ words) play is = refl

-- the words of a command over a file are none of one over a strip
pub no_strip : (words : List (List ℕ)) (command : FileCommand) → command_in words ≡ Some command → strip_command_in words ≡ None
no_strip [] command is = refl
no_strip (a ∷ []) command is = refl
no_strip (a ∷ b ∷ []) command is =
    let columns = columns_from (number_in MOST_COLUMNS b) in
    ap (λ (t : Bool). if t then option_map Make columns else if bytes_eq a (codes "bench") then option_map Bench columns else no_strip_known) (is_another a b [] command (codes "make") is (nothing (length b == 0)))
    ∙ ap (λ (t : Bool). if t then option_map Bench columns else no_strip_known) (is_another a b [] command (codes "bench") is (nothing (length b == 0)))
no_strip (a ∷ b ∷ c ∷ words) command is = refl

-- and those of a play are none of a command over a strip
pub no_strip_command : (words : List (List ℕ)) (play : PlaySeen) → play_in words ≡ Some play → strip_command_in words ≡ None
no_strip_command [] play is = refl
no_strip_command (a ∷ []) play is = refl
no_strip_command (a ∷ b ∷ []) play is = let e : no_seen ≡ Some play = sym (neither (bytes_eq a (codes "play")) (bytes_eq a (codes "playw"))) ∙ is in absurd cc
no_strip_command (a ∷ b ∷ c ∷ words) play is = refl

-- ---- budgets, one after the other

-- budgets that were read stand in front of the others
abbrev pub behind : List ℕ → Option (List ℕ) → Option (List ℕ)
behind budgets others = option_map (λ (bs : List ℕ). budgets ++ bs) others

pub behind_none : (others : Option (List ℕ)) → behind [] others ≡ others
behind_none None = refl
behind_none (Some others) = refl

pub behind_next : (budgets : List ℕ) (budget : ℕ) (others : Option (List ℕ)) → behind budgets (with_budget (Some budget) others) ≡ behind (budgets ++ budget ∷ []) others
behind_next budgets budget None = refl
behind_next budgets budget (Some others) = ap Some (sym (append_assoc budgets (budget ∷ []) others))

module _ {X : Type 0} (f : X → List ℕ) (xs : List X) (i : ℕ) (x : X) (within : i < length xs) (is : x ≡ slice_index_or xs i x) where
  abbrev words : List (List ℕ)
  words = map f xs

  -- the words from a place on begin with the word there
  words_from : drop i words ≡ f x ∷ drop (suc i) words
  words_from =
      drop-cons words i (f x) (omega (arith, within, length-map xs f))
      ∙ ap (λ (w : List ℕ). w ∷ drop (suc i) words) (get_or-map f xs i x ∙ ap f (sym is))

  budgets_from : budgets_in (drop i words) ≡ with_budget (number_in GREATEST_BUDGET (f x)) (budgets_in (drop (i + 1) words))
  unfolding budgets_in
  budgets_from =
      let next : suc i ≡ i + 1 = omega arith in
      ap budgets_in words_from ∙ ap (λ (j : ℕ). with_budget (number_in GREATEST_BUDGET (f x)) (budgets_in (drop j words))) next

  -- the word spells none
  pub no_budgets : (budgets : List ℕ) → number_in GREATEST_BUDGET (f x) ≡ None → behind budgets (budgets_in (drop i words)) ≡ budgets_in words → budgets_in words ≡ None
  no_budgets budgets none so_far =
      sym so_far ∙ ap (behind budgets) (budgets_from ∙ ap (λ (o : Option ℕ). with_budget o (budgets_in (drop (i + 1) words))) none)

  -- it spells one
  pub one_budget : (budgets : List ℕ) (budget : ℕ) → number_in GREATEST_BUDGET (f x) ≡ Some budget → behind budgets (budgets_in (drop i words)) ≡ budgets_in words → behind (budgets ++ budget ∷ []) (budgets_in (drop (i + 1) words)) ≡ budgets_in words
  one_budget budgets budget some so_far =
      sym (behind_next budgets budget (budgets_in (drop (i + 1) words)))
      ∙ ap (λ (o : Option ℕ). behind budgets (with_budget o (budgets_in (drop (i + 1) words)))) (sym some)
      ∙ ap (behind budgets) (sym budgets_from) ∙ so_far

-- no word is left
pub all_budgets : (words : List (List ℕ)) (i : ℕ) (budgets : List ℕ) → length words ≤ i → behind budgets (budgets_in (drop i words)) ≡ budgets_in words → Some budgets ≡ budgets_in words
unfolding budgets_in
all_budgets words i budgets past so_far =
    ap Some (sym (append-nil budgets)) ∙ ap (λ (ws : List (List ℕ)). behind budgets (budgets_in ws)) (sym (drop_of_length-le words past)) ∙ so_far
