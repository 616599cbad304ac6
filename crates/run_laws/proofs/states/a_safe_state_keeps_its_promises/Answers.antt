use Rattle.run_laws.proofs.states.a_safe_state_keeps_its_promises.Goals as goal

pub returns-clause-locked : goal.returns-clause-locked
returns-clause-locked c = λ w a safe i s at p locked. safe.locked_are_held i s p at locked

pub returns-clause-base : goal.returns-clause-base
returns-clause-base c = λ w a safe. safe.base_is_held

pub returns-clause-budgets : goal.returns-clause-budgets
returns-clause-budgets c = λ w a safe. safe.loads
