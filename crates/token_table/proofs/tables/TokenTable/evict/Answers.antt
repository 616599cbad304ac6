use Rattle.std.proofs.lemmas.Grind.{get_or_default_zero}
use Rattle.std.proofs.Common.{◌≡◌, ℕ, ◌*◌, List, ◌<◌, length, get_or, sym, ap, subst, ◌∙◌, refl}
use Rattle.file_model.specs.Tries.{is_odd}
use Rattle.token_table.specs.Seats.{KeeperSeen, desk_in}
use Rattle.token_table.proofs.Seated.{evict_asks, word_there}
use Rattle.token_table.proofs.tables.TokenTable.evict.Goals as goal

pub compare_exchange-found-requires : goal.compare_exchange-found-requires
compare_exchange-found-requires c =
    let here : c.keeper.inside.seat.table_id ≡ c.self.inside.table.shared.table_id =
    ap (λ (s : KeeperSeen). s.table) c.keeper.view_is ∙ (c.requires.table ∙ sym c.self.view_is) in
    let inside : c.args.patch < length (desk_in c.keeper.inside.seat.me.0).epochs =
    subst (λ (s : KeeperSeen). c.args.patch < length s.desk.epochs) (sym c.keeper.view_is) c.requires.patch in
    let kept : c.args.patch < length c.keeper.inside.epochs.items = subst (λ (es : List ℕ). c.args.patch < length es) c.keeper.invariant.epochs_are inside in
    let read : c.from-unused.result ≡ get_or (desk_in c.keeper.inside.seat.me.0).epochs c.args.patch 0 =
    c.from-unused.ensures ∙ (c.index.ensures ∙ (get_or_default_zero c.keeper.inside.epochs.items c.args.patch _ kept
    ∙ ap (λ (es : List ℕ). get_or es c.args.patch 0) (sym c.keeper.invariant.epochs_are))) in
    evict_asks _ _ c.keeper.inside.seat.id c.args.patch _ _ _ c.self.invariant here
    (word_there _ _ _ _ c.keeper.inside.epochs.items c.args.patch c.keeper.invariant here inside)
    (desk_in c.keeper.inside.seat.me.0) c.keeper.invariant.knows _ _ (ap (λ (n : ℕ). n * 4294967296) read) refl
    (ap (λ (s : KeeperSeen). is_odd (get_or s.desk.epochs c.args.patch 0)) c.keeper.view_is ∙ c.requires.there)
