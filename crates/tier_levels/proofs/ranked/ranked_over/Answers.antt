-- The words are taken apart again, and the seat that is left is theirs, since they kept its lender.
use Rattle.std.proofs.Common.{◌≡◌, refl, sym, ap, subst, ◌∙◌}
use Rattle.atomic_table.specs.Seated.{TableId}
use Rattle.token_table.specs.Places.{MemberPlace}
use Rattle.level_model.specs.Levels.{seat_of}
use Rattle.level_model.specs.LevelTurns.{TurnsSeat}
use Rattle.tier_levels.proofs.ranked.ranked_over.Goals as goal

pub returns-clause-seat : goal.returns-clause-seat
returns-clause-seat g c =
    let table = c.args.table.now in
    let before = c.args.seat.now in
    let words = c.ranked_turn-answer.new.keeper in
    let after = words.seat.now in
    let turned = c.ranked_turn-answer.ensures in
    let place = turned.keeper.0 in
    let has_words = g.K.Member.has_words in
    let at_home = subst (λ (t : TableId). g.K.Member.home after t ≡ t) (ap (λ (a : MemberPlace). a.table) place) words.home in
    let seat = seat_of has_words (g.K.Member.home before table) (g.K.Member.tier before) (g.K.Member.desk before) in
    let says : TurnsSeat c.ranked_turn-answer.result c.ranked_turn-answer.new.tier.state seat (seat_of has_words (g.K.Member.home after table) (g.K.Member.tier after) (g.K.Member.desk after)) = record {
      has_words = refl;
      home = at_home ∙ sym c.requires.home;
      tier = ap (λ (a : MemberPlace). a.tier) place;
      made = ap (λ (a : MemberPlace). a.made) place;
      pins = ap (λ (a : MemberPlace). a.pins) place;
      guest = ap (λ (a : MemberPlace). a.guest) place;
      ended = ap (λ (a : MemberPlace). a.ended) place;
      many = turned.keeper.1;
      epochs = turned.epochs;
      fits = c.word_count-words.ensures.fits;
      tied = turned.tied;
    } in
    let left = c.seat-1.given.1 (sym (ap (λ (a : MemberPlace). a.lender) place)) in
    subst (λ v. TurnsSeat c.ranked_turn-answer.result c.ranked_turn-answer.new.tier.state seat (seat_of has_words (g.K.Member.home v table) (g.K.Member.tier v) (g.K.Member.desk v))) (sym left) says
