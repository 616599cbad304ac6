-- A settling that tiers can make is read from its lines, from a state that is the same but for bytes of bodies.
use Rattle.std.proofs.Common.{◌≡◌, ◌≢◌, ℕ, zero, suc, ◌+◌, ◌≤◌, Bool, false, List, [], ◌∷◌, ◌++◌, length, Some, refl, sym, ap, subst, ◌∙◌, arith}
use Rattle.file_model.specs.Lists.{BodyLists}
use Rattle.tier_model.specs.declared.turns.Turn.{Turn}
use Rattle.tier_model.specs.declared.turns.Turn.TheVariants.{Reserve, Evict, Kept, Got, Lost, Fault, Changed, Commit, Idle}
use Rattle.run_model.specs.States.{State}
use Rattle.run_model.specs.Lines.{IdlesTo, LastTurn, MoreTurns, SettlesTo, AllSettled, TierSettles}
use Rattle.run_model.specs.LineTexts.{turn_line, turn_lines}
use Rattle.run_laws.specs.BlankRuns.{blank_state}
use Rattle.run_laws.specs.Sound.{IsSound}
use Rattle.run_laws.specs.TurnLaws.{turned_sound}
use Rattle.audit_lines.specs.Places.{line_feeds}
use Rattle.audit_spelling.specs.Spellings.{most_32}
use Rattle.audit_settling.specs.Settlings.{Settling, IsSettling, Standing, is_idle, UnlessIdle, AreTurnsRead, most_turns, AreTiersRead, FitTurns}
use Rattle.audit_settling.specs.TurnsBack.{ReadsTurn, turn_back}
use Rattle.audit_settling.specs.SettlingBound.{idles_sound, few_idles}
use Rattle.audit_settling.specs.SettlingsRead.{lines_both}

idle_not : (answer : Turn) → answer ≢ Idle → is_idle answer ≡ false
idle_not Idle on = absurd (on refl)
idle_not (Reserve p) on = refl
idle_not (Evict p) on = refl
idle_not (Kept p uses) on = refl
idle_not (Got p) on = refl
idle_not (Lost p) on = refl
idle_not (Fault p) on = refl
idle_not (Changed p fault) on = refl
idle_not (Commit p) on = refl

fit_front : (xs ys : List (ℕ × Turn)) → FitTurns (xs ++ ys) → FitTurns xs
fit_front [] ys fit = tt
fit_front (x ∷ xs) ys fit = (fit.0, fit_front xs ys fit.1)

fit_back : (xs ys : List (ℕ × Turn)) → FitTurns (xs ++ ys) → FitTurns ys
fit_back [] ys fit = fit
fit_back (x ∷ xs) ys fit = fit_back xs ys fit.1

-- turns of tier k until one is idle are read, to a state that is the same but for bytes of bodies
record ReadsTurns (a : Settling) (k most : ℕ) (r : Standing) (line : ℕ) (turns : List (ℕ × Turn))
    (b : State) : Type 0 where
  stand : Standing
  is : AreTurnsRead a k most r line stand (turn_lines turns)
  sound : IsSound a.world stand.state
  like : blank_state b ≡ blank_state stand.state

-- the turns of a settling of the first n tiers are read, to a state that is the same but for bytes of bodies
pub record ReadsSettling (a : Settling) (n : ℕ) (r : Standing) (line : ℕ) (turns : List (ℕ × Turn))
    (b : State) : Type 0 where
  pub stand : Standing
  pub is : AreTiersRead a n r line stand (turn_lines turns)
  pub sound : IsSound a.world stand.state
  pub like : blank_state b ≡ blank_state stand.state

module _ (a : Settling) (settling : IsSettling a) (bodies : List BodyLists) (told : a.world.bodies ≡ Some bodies) where
  last_back : (k most : ℕ) (s b : State) (r : Standing) (line : ℕ) → IsSound a.world r.state
      → ReadsTurn a k r line Idle b → ReadsTurns a k (suc most) r line ((k, Idle) ∷ []) b
  unfolding turn_lines
  last_back k most s b r line sound read =
      let m = read.moved in
      let P : Bool → Type 0 = λ idle. UnlessIdle idle m.next (AreTurnsRead a k most m.next)
      (line_feeds (turn_line k Idle) + line) m.next [] in
      record {
        stand = m.next;
        is = record {
          value = m;
          front = turn_line k Idle;
          back = [];
          first = read.is;
          next = subst P (sym (ap is_idle read.answer)) (record { value = refl; is = refl });
          is = refl;
        };
        sound = turned_sound a.world r.state m.next.state k m.answer sound read.turns;
        like = read.like;
      }

  more_back : (k most : ℕ) (b c : State) (r : Standing) (line : ℕ) (answer : Turn) (turns : List (ℕ × Turn))
      → answer ≢ Idle → (read : ReadsTurn a k r line answer b)
      → ReadsTurns a k most read.moved.next (line_feeds (turn_line k answer) + line) turns c
      → ReadsTurns a k (suc most) r line ((k, answer) ∷ turns) c
  unfolding turn_lines
  more_back k most b c r line answer turns on read rest =
      let m = read.moved in
      let P : Bool → Type 0 = λ idle. UnlessIdle idle m.next (AreTurnsRead a k most m.next)
      (line_feeds (turn_line k answer) + line) rest.stand (turn_lines turns) in
      record {
        stand = rest.stand;
        is = record {
          value = m;
          front = turn_line k answer;
          back = turn_lines turns;
          first = read.is;
          next = subst P (sym (ap is_idle read.answer ∙ idle_not answer on)) rest.is;
          is = refl;
        };
        sound = rest.sound;
        like = rest.like;
      }

  idles_back : (k most : ℕ) → k ≤ most_32 → (s b : State) (turns : List (ℕ × Turn)) → IdlesTo a.world k s turns b
      → length turns ≤ most → FitTurns turns → IsSound a.world s
      → (r : Standing) → IsSound a.world r.state → blank_state s ≡ blank_state r.state → (line : ℕ)
      → ReadsTurns a k most r line turns b
  idles_back k zero small s b _ (LastTurn turn) few fit s_sound r sound like line = absurd (omega arith)
  idles_back k zero small s b _ (MoreTurns answer on turn rest) few fit s_sound r sound like line = absurd (omega arith)
  idles_back k (suc most) small s b _ (LastTurn turn) few fit s_sound r sound like line =
      last_back k most s b r line sound
      (turn_back a settling bodies told k small s b Idle turn fit.0 s_sound r sound like line)
  idles_back k (suc most) small s c _
      (MoreTurns {b = b} {log = turns} answer on turn rest) few fit s_sound r sound like line =
      let read = turn_back a settling bodies told k small s b answer turn fit.0 s_sound r sound like line in
      let m = read.moved in
      more_back k most b c r line answer turns on read
      (idles_back k most small b c turns rest (omega arith) fit.1
      (turned_sound a.world s b k answer s_sound turn) m.next
      (turned_sound a.world r.state m.next.state k m.answer sound read.turns) read.like
      (line_feeds (turn_line k answer) + line))

  -- a settling is read
  pub settling_back : (n : ℕ) → n ≤ most_32 → (s b : State) (turns : List (ℕ × Turn)) → SettlesTo a.world n s turns b
      → FitTurns turns → IsSound a.world s
      → (r : Standing) → IsSound a.world r.state → blank_state s ≡ blank_state r.state → (line : ℕ)
      → ReadsSettling a n r line turns b
  unfolding turn_lines
  settling_back zero small s b _ AllSettled fit s_sound r sound like line = record
      { stand = r; is = record { value = refl; is = refl }; sound = sound; like = like }
  settling_back (suc n) small s c _
      (TierSettles {b = b} {log = turns} {rest = more} idles rest) fit s_sound r sound like line =
      let first = idles_back n (most_turns a.world) (omega arith) s b turns idles
      (few_idles a.world n s b turns s_sound idles) (fit_front turns more fit) s_sound r sound like line in
      let later = settling_back n (omega arith) b c more rest (fit_back turns more fit)
      (idles_sound a.world n s b turns s_sound idles) first.stand first.sound first.like
      (line_feeds (turn_lines turns) + line) in
      record {
        stand = later.stand;
        is = record {
          value = first.stand;
          front = turn_lines turns;
          back = turn_lines more;
          first = first.is;
          next =
              later.is;
          is = lines_both turns more;
        };
        sound = later.sound;
        like = later.like;
      }
