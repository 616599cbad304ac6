use Rattle.session_seats.proofs.Calls.{found_by, none_missing, pass_found, view_in, still_seats, still_seated, keeps_words, steps_ok, steps_err, steps_stop, steps_told}
use Rattle.session_seats.proofs.CallLaws.{old_view}
use Rattle.session_seats.proofs.seats.Seats.step.Goals as goal

pub step-requires-clause-pass : goal.step-requires-clause-pass
step-requires-clause-pass c =
    let i = c.self.inside in
    let f = found_by i.mesh.now.lists i.seats.items c.args.self.now c.self.view_is c.self.invariant c.args.session c.requires.view.session c.requires.view.at c.index_mut.result.now c.index_mut.ensures.value c.args.words.now c.requires.seated c.in-Some.seat c.in-Some.is in
    pass_found i.mesh.now.lists i.seats.items c.args.words.now c.args.session c.in-Some.seat f

pub step-requires-clause-view : goal.step-requires-clause-view
step-requires-clause-view c =
    let i = c.self.inside in
    let f = found_by i.mesh.now.lists i.seats.items c.args.self.now c.self.view_is c.self.invariant c.args.session c.requires.view.session c.requires.view.at c.index_mut.result.now c.index_mut.ensures.value c.args.words.now c.requires.seated c.in-Some.seat c.in-Some.is in
    old_view i.mesh.now.lists i.seats.items c.args.words.now c.args.session c.in-Some.seat f.are f.seated f.at (view_in i.mesh.now.lists i.seats.items c.args.self.now c.self.view_is c.args.session c.requires.view)

pub unreachable-requires : goal.unreachable-requires
unreachable-requires c =
    let i = c.self.inside in
    none_missing i.mesh.now.lists i.seats.items c.args.self.now c.self.view_is c.self.invariant c.args.session c.requires.view.session c.requires.view.at c.index_mut.result.now c.index_mut.ensures.value c.in-None.is

pub invariant_of-self : goal.invariant_of-self
invariant_of-self c =
    let i = c.self.inside in
    let f = found_by i.mesh.now.lists i.seats.items c.args.self.now c.self.view_is c.self.invariant c.args.session c.requires.view.session c.requires.view.at c.index_mut.result.now c.index_mut.ensures.value c.args.words.now c.requires.seated c.in-Some.seat c.in-Some.is in
    still_seats i.mesh.now.lists i.seats.items c.args.self.now c.self.view_is c.args.words.now c.args.session c.in-Some.seat f c.step.new.words c.step.new.self c.step.ensures.keeps

pub returns-clause-does : goal.returns-clause-does
returns-clause-does c =
    let i = c.self.inside in
    let f = found_by i.mesh.now.lists i.seats.items c.args.self.now c.self.view_is c.self.invariant c.args.session c.requires.view.session c.requires.view.at c.index_mut.result.now c.index_mut.ensures.value c.args.words.now c.requires.seated c.in-Some.seat c.in-Some.is in
    steps_ok i.mesh.now.lists i.seats.items c.args.self.now c.self.view_is c.args.words.now c.args.session c.in-Some.seat f c.step.new.words c.step.new.self c.step.ensures.keeps c.step.result c.requires.view c.step.ensures.step

pub returns-clause-none : goal.returns-clause-none
returns-clause-none c =
    let i = c.self.inside in
    let f = found_by i.mesh.now.lists i.seats.items c.args.self.now c.self.view_is c.self.invariant c.args.session c.requires.view.session c.requires.view.at c.index_mut.result.now c.index_mut.ensures.value c.args.words.now c.requires.seated c.in-Some.seat c.in-Some.is in
    steps_err i.mesh.now.lists i.seats.items c.args.self.now c.self.view_is c.args.words.now c.args.session c.in-Some.seat f c.step.new.words c.step.new.self c.step.ensures.keeps c.step.result c.requires.view c.step.ensures.none

pub returns-clause-stops : goal.returns-clause-stops
returns-clause-stops c =
    let i = c.self.inside in
    let f = found_by i.mesh.now.lists i.seats.items c.args.self.now c.self.view_is c.self.invariant c.args.session c.requires.view.session c.requires.view.at c.index_mut.result.now c.index_mut.ensures.value c.args.words.now c.requires.seated c.in-Some.seat c.in-Some.is in
    steps_stop i.mesh.now.lists i.seats.items c.args.self.now c.self.view_is c.args.words.now c.args.session c.in-Some.seat f c.step.new.words c.step.new.self c.step.ensures.keeps c.step.result c.requires.view c.step.ensures.none

pub returns-clause-seated : goal.returns-clause-seated
returns-clause-seated c =
    let i = c.self.inside in
    let f = found_by i.mesh.now.lists i.seats.items c.args.self.now c.self.view_is c.self.invariant c.args.session c.requires.view.session c.requires.view.at c.index_mut.result.now c.index_mut.ensures.value c.args.words.now c.requires.seated c.in-Some.seat c.in-Some.is in
    still_seated i.mesh.now.lists i.seats.items c.args.self.now c.self.view_is c.args.words.now c.args.session c.in-Some.seat f c.step.new.words c.step.new.self c.step.ensures.keeps

pub returns-clause-words : goal.returns-clause-words
returns-clause-words c =
    let i = c.self.inside in
    let f = found_by i.mesh.now.lists i.seats.items c.args.self.now c.self.view_is c.self.invariant c.args.session c.requires.view.session c.requires.view.at c.index_mut.result.now c.index_mut.ensures.value c.args.words.now c.requires.seated c.in-Some.seat c.in-Some.is in
    keeps_words i.mesh.now.lists i.seats.items c.args.self.now c.self.view_is c.args.words.now c.args.session c.in-Some.seat f c.step.new.words c.step.new.self c.step.ensures.keeps

pub returns-clause-told : goal.returns-clause-told
returns-clause-told c =
    let i = c.self.inside in
    let f = found_by i.mesh.now.lists i.seats.items c.args.self.now c.self.view_is c.self.invariant c.args.session c.requires.view.session c.requires.view.at c.index_mut.result.now c.index_mut.ensures.value c.args.words.now c.requires.seated c.in-Some.seat c.in-Some.is in
    steps_told i.mesh.now.lists i.seats.items c.args.self.now c.self.view_is c.args.words.now c.args.session c.in-Some.seat f c.step.new.words c.step.new.self c.step.ensures.keeps c.step.result c.requires.view c.step.ensures.step c.step.ensures.none
