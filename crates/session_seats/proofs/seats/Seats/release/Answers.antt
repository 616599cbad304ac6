use Rattle.session_seats.proofs.Calls.{found_by, none_missing, pass_found, still_seats, still_seated, keeps_words, frees_seen, frees_told}
use Rattle.session_seats.proofs.seats.Seats.release.Goals as goal

pub free-requires : goal.free-requires
free-requires c =
    let i = c.self.inside in
    let f = found_by i.mesh.now.lists i.seats.items c.args.self.now c.self.view_is c.self.invariant c.args.session c.requires.open.session c.requires.open.at c.index_mut.result.now c.index_mut.ensures.value c.args.words.now c.requires.seated c.in-Some.seat c.in-Some.is in
    record { pass = pass_found i.mesh.now.lists i.seats.items c.args.words.now c.args.session c.in-Some.seat f }

pub unreachable-requires : goal.unreachable-requires
unreachable-requires c =
    let i = c.self.inside in
    none_missing i.mesh.now.lists i.seats.items c.args.self.now c.self.view_is c.self.invariant c.args.session c.requires.open.session c.requires.open.at c.index_mut.result.now c.index_mut.ensures.value c.in-None.is

pub invariant_of-self : goal.invariant_of-self
invariant_of-self c =
    let i = c.self.inside in
    let f = found_by i.mesh.now.lists i.seats.items c.args.self.now c.self.view_is c.self.invariant c.args.session c.requires.open.session c.requires.open.at c.index_mut.result.now c.index_mut.ensures.value c.args.words.now c.requires.seated c.in-Some.seat c.in-Some.is in
    still_seats i.mesh.now.lists i.seats.items c.args.self.now c.self.view_is c.args.words.now c.args.session c.in-Some.seat f c.free.new.words c.free.new.self c.free.ensures.keeps

pub returns-clause-frees : goal.returns-clause-frees
returns-clause-frees c =
    let i = c.self.inside in
    let f = found_by i.mesh.now.lists i.seats.items c.args.self.now c.self.view_is c.self.invariant c.args.session c.requires.open.session c.requires.open.at c.index_mut.result.now c.index_mut.ensures.value c.args.words.now c.requires.seated c.in-Some.seat c.in-Some.is in
    frees_seen i.mesh.now.lists i.seats.items c.args.self.now c.self.view_is c.args.words.now c.args.session c.in-Some.seat f c.free.new.words c.free.new.self c.free.ensures.keeps c.free.result c.free.ensures.frees

pub returns-clause-seated : goal.returns-clause-seated
returns-clause-seated c =
    let i = c.self.inside in
    let f = found_by i.mesh.now.lists i.seats.items c.args.self.now c.self.view_is c.self.invariant c.args.session c.requires.open.session c.requires.open.at c.index_mut.result.now c.index_mut.ensures.value c.args.words.now c.requires.seated c.in-Some.seat c.in-Some.is in
    still_seated i.mesh.now.lists i.seats.items c.args.self.now c.self.view_is c.args.words.now c.args.session c.in-Some.seat f c.free.new.words c.free.new.self c.free.ensures.keeps

pub returns-clause-words : goal.returns-clause-words
returns-clause-words c =
    let i = c.self.inside in
    let f = found_by i.mesh.now.lists i.seats.items c.args.self.now c.self.view_is c.self.invariant c.args.session c.requires.open.session c.requires.open.at c.index_mut.result.now c.index_mut.ensures.value c.args.words.now c.requires.seated c.in-Some.seat c.in-Some.is in
    keeps_words i.mesh.now.lists i.seats.items c.args.self.now c.self.view_is c.args.words.now c.args.session c.in-Some.seat f c.free.new.words c.free.new.self c.free.ensures.keeps

pub returns-clause-told : goal.returns-clause-told
returns-clause-told c =
    let i = c.self.inside in
    let f = found_by i.mesh.now.lists i.seats.items c.args.self.now c.self.view_is c.self.invariant c.args.session c.requires.open.session c.requires.open.at c.index_mut.result.now c.index_mut.ensures.value c.args.words.now c.requires.seated c.in-Some.seat c.in-Some.is in
    frees_told i.mesh.now.lists i.seats.items c.args.self.now c.self.view_is c.args.words.now c.args.session c.in-Some.seat f c.free.new.words c.free.new.self c.free.ensures.keeps c.free.result c.free.ensures.frees
