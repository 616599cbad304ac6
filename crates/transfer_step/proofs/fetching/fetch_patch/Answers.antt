-- Each answer of the fetch, against the rule.
use Rattle.std.proofs.Common.{◌≡◌, ◌<◌, List, ℕ, length, ap, sym, subst, ◌∙◌}
use Rattle.file_model.specs.Lists.{SeenBody}
use Rattle.tier_model.specs.declared.turns.Abort.TheVariants as reasons
use Rattle.tier_model.specs.Places.{first_bare}
use Rattle.tier_model.specs.Tiers.{IsBodyFor}
use Rattle.tier_model.specs.Changes.{aborted}
use Rattle.tier_laws.specs.ComingLaws.{bare_comes}
use Rattle.tier_laws.specs.TierLaws.{comes_within}
use Rattle.transfer_step.specs.Fetches.{is_lost}
use Rattle.transfer_step.proofs.RuleSteps.{some_at, got_body, got_answer, lost_answer, fault_answer, changed_answer}
use Rattle.transfer_step.proofs.fetching.fetch_patch.Goals as goal

pub fetch-requires : goal.fetch-requires
fetch-requires g c =
    let s = c.args.tier.now.state in
    subst (λ (sizes : List ℕ). c.args.patch < length sizes) (sym c.requires.supply)
    (comes_within s c.args.patch c.budget.ensures.kept (bare_comes s.coming c.args.patch c.requires.bare))

pub returns-in-Body-clause-answer : goal.returns-in-Body-clause-answer
returns-in-Body-clause-answer g c =
    let s = c.args.tier.now.state in
    let there = sym (ap is_lost c.in-Body.is) ∙ c.in_ok-body.ensures.lost in
    let body = rw c.in-Body.is at c.in_ok-body.ensures.body in
    got_answer (g.B.Supply.has (g.B.Supply.place c.args.below.now) c.args.patch) s c.arrive.new.self.state c.args.patch c.in-Body.body.value there c.budget.ensures.kept c.requires.bare body.patch c.arrive.ensures.state

pub returns-in-Body-clause-brings : goal.returns-in-Body-clause-brings
returns-in-Body-clause-brings g c =
    let s = c.args.tier.now.state in
    let body = rw c.in-Body.is at c.in_ok-body.ensures.body in
    let at = got_body s c.arrive.new.self.state c.args.patch c.in-Body.body.value c.budget.ensures.kept c.requires.bare body.patch c.arrive.ensures.state in
    subst (IsBodyFor s.sizes c.args.patch) (sym at) (subst (λ (sizes : List ℕ). IsBodyFor sizes c.args.patch c.in-Body.body.value) c.requires.supply body)

pub returns-in-Body-clause-got : goal.returns-in-Body-clause-got
returns-in-Body-clause-got g c =
    let s = c.args.tier.now.state in
    let body = rw c.in-Body.is at c.in_ok-body.ensures.body in
    let given = rw c.in-Body.is at c.in_ok-body.ensures.given in
    let at = got_body s c.arrive.new.self.state c.args.patch c.in-Body.body.value c.budget.ensures.kept c.requires.bare body.patch c.arrive.ensures.state in
    subst (λ (b : SeenBody). g.B.Supply.gives (g.B.Supply.place c.args.below.now) c.args.patch b) (sym at) given

pub returns-in-Lost-clause-answer : goal.returns-in-Lost-clause-answer
returns-in-Lost-clause-answer g c =
    let s = c.args.tier.now.state in
    lost_answer (g.B.Supply.has (g.B.Supply.place c.args.below.now) c.args.patch) s c.abort.new.self.state c.args.patch
    (sym (ap is_lost c.in-Lost.is) ∙ c.in_ok-body.ensures.lost)
    (some_at (λ (p : ℕ). c.abort.new.self.state ≡ aborted s p reasons.Lost) (first_bare s.coming) c.args.patch c.requires.bare c.abort.ensures.state)

pub returns-in-Fault-clause-answer : goal.returns-in-Fault-clause-answer
returns-in-Fault-clause-answer g c =
    let s = c.args.tier.now.state in
    fault_answer (g.B.Supply.has (g.B.Supply.place c.args.below.now) c.args.patch) s c.abort-in-Fault.new.self.state c.args.patch
    (sym (ap is_lost c.in-Fault.is) ∙ c.in_ok-body.ensures.lost)
    (some_at (λ (p : ℕ). c.abort-in-Fault.new.self.state ≡ aborted s p reasons.Fault) (first_bare s.coming) c.args.patch c.requires.bare c.abort-in-Fault.ensures.state)

pub returns-in-Changed-clause-answer : goal.returns-in-Changed-clause-answer
returns-in-Changed-clause-answer g c =
    let s = c.args.tier.now.state in
    changed_answer (g.B.Supply.has (g.B.Supply.place c.args.below.now) c.args.patch) s c.abort-in-Changed.new.self.state c.args.patch c.in-Changed.fault
    (sym (ap is_lost c.in-Changed.is) ∙ c.in_ok-body.ensures.lost)
    (some_at (λ (p : ℕ). c.abort-in-Changed.new.self.state ≡ aborted s p (reasons.Changed c.in-Changed.fault)) (first_bare s.coming) c.args.patch c.requires.bare c.abort-in-Changed.ensures.state)
