use Rattle.std.proofs.Common.{◌≡◌, IfOk, vec_len, ℕ, List, length, sym, ap, subst, ◌∙◌, arith}
use Rattle.std.specs.Mem.Slots.{slots_items}
use Rattle.token_words.specs.declared.entries.Word.{Word}
use Rattle.token_words.specs.PlainTokens.{HasWords}
use Rattle.atomic_table.specs.Seated.{TableId}
use Rattle.atomic_table.specs.Table.{Final, Seen}
use Rattle.token_table.specs.declared.knowledge.Desk.{Desk}
use Rattle.token_table.specs.declared.knowledge.View.TheVariants.{Keeper}
use Rattle.token_table.specs.Known.{desk_allowance}
use Rattle.token_table.specs.WordRule.{Holds}
use Rattle.token_table.specs.Closings.{HasDesk, AreRead}
use Rattle.token_table.specs.Seats.{KeeperSeen, desk_in}
use Rattle.token_table.proofs.Passages.{closes}
use Rattle.token_table.proofs.Plain.{plain_result}
use Rattle.token_table.proofs.tables.TokenTable.into_plain.Goals as goal

pub returns : goal.returns
returns c =
    let desk : Desk = desk_in c.keeper.inside.seat.me.0 in
    let view : c.keeper.inside.seat.me.0 ≡ Keeper desk = ap (λ m. m.0) c.keeper.invariant.knows in
    let count : ℕ = vec_len c.self.inside.table.shared.key in
    let same : desk ≡ c.args.keeper.desk = ap (λ (s : KeeperSeen). s.desk) c.keeper.view_is in
    let all : desk_allowance desk ≡ 65 = ap desk_allowance same ∙ c.requires.all in
    let final = subst (λ v. Final (Seen (Holds count) c.keeper.inside.seat.id v) (slots_items c.close_with-closed.result.words) (slots_items c.close_with-closed.result.slots)) view c.close_with-closed.ensures.values.2 in
    let closed = closes _ count c.keeper.inside.seat.id desk (slots_items c.close_with-closed.result.words) (slots_items c.close_with-closed.result.slots) c.keeper.invariant.alone all final in
    let read : AreRead desk.epochs (slots_items c.close_with-closed.result.words) c.in_ok-words.field-0.items =
    subst (λ (es : List ℕ). AreRead es (slots_items c.close_with-closed.result.words) c.in_ok-words.field-0.items) (c.as_slice.ensures.value ∙ sym c.keeper.invariant.epochs_are) c.in_ok-words.ensures in
    let tables : c.keeper.inside.seat.table_id.words ≡ c.self.inside.table.shared.table_id.words =
    ap (λ (t : TableId). t.words) (ap (λ (s : KeeperSeen). s.table) c.keeper.view_is ∙ (c.requires.table ∙ sym c.self.view_is)) in
    let known : length desk.epochs ≡ length c.keeper.inside.epochs.items = ap length c.keeper.invariant.epochs_are in
    let many = c.keeper.invariant.many in
    let words = c.self.invariant.same in
    subst (λ (d : Desk). IfOk c.with_words.result (HasDesk d)) same
    (plain_result desk (slots_items c.close_with-closed.result.words) c.in_ok-words.field-0.items c.keeper.invariant.fits read (λ p below. closed.1 p (omega arith)) c.with_words.result
    (subst (λ (ws : List Word). IfOk c.with_words.result (HasWords ws)) c.as_slice-2.ensures.value c.with_words.ensures))
