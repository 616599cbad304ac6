use Rattle.std.proofs.Common.{refl}
use Rattle.token_words.specs.PlainTokens.{words_seen}
use Rattle.session_seats.proofs.CloseLaws.{seats_left, close_does, close_seated, close_told, close_board}
use Rattle.session_seats.proofs.seats.Seats.close.Goals as goal

pub invariant_of-self : goal.invariant_of-self
invariant_of-self c =
    let i = c.self.inside in
    let r = c.release-unlocks in
    seats_left i.mesh.now.lists i.seats.items r.new.self c.self.view_is c.self.invariant c.args.session (words_seen c.args.words.now) c.args.self.now r.result (words_seen r.new.words) r.ensures.frees

pub returns-clause-does : goal.returns-clause-does
returns-clause-does c =
    let i = c.self.inside in
    let r = c.release-unlocks in
    close_does i.mesh.now.lists i.seats.items r.new.self c.self.view_is c.self.invariant c.args.session (words_seen c.args.words.now) c.args.self.now r.result (words_seen r.new.words) r.ensures.frees c.args.board.now c.requires.board c.requires.few c.take_off.new.self c.take_off.ensures.board

pub returns-clause-seated : goal.returns-clause-seated
returns-clause-seated c =
    let i = c.self.inside in
    let r = c.release-unlocks in
    close_seated i.mesh.now.lists i.seats.items r.new.self c.self.view_is c.self.invariant c.args.session (words_seen c.args.words.now) c.args.self.now r.result (words_seen r.new.words) r.ensures.frees r.ensures.seated

pub returns-clause-told : goal.returns-clause-told
returns-clause-told c =
    let i = c.self.inside in
    let r = c.release-unlocks in
    close_told i.mesh.now.lists i.seats.items r.new.self c.self.view_is c.self.invariant c.args.session (words_seen c.args.words.now) c.args.self.now r.result (words_seen r.new.words) r.ensures.frees r.ensures.told

pub returns-clause-board : goal.returns-clause-board
returns-clause-board c =
    let i = c.self.inside in
    let r = c.release-unlocks in
    close_board i.mesh.now.lists i.seats.items r.new.self c.self.view_is c.self.invariant c.args.session (words_seen c.args.words.now) c.args.self.now r.result (words_seen r.new.words) r.ensures.frees c.args.board.now c.take_off.new.self c.requires.board r.ensures.mesh c.take_off.ensures.board
