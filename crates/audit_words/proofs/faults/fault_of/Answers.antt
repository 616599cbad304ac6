use Rattle.std.proofs.Common.{ℕ, List, map, Bor, sym, arith}
use Rattle.std.proofs.lemmas.List.{length-map}
use Rattle.audit_words.proofs.ManyWords.{many_words}
use Rattle.audit_words.proofs.faults.fault_of.Goals as goal

pub returns-in_default-2 : goal.returns-in_default-2
returns-in_default-2 c =
    let words = map (λ (word : Bor (List ℕ)). word.now) c.args.words.now in
    sym (many_words words
    (let many = c.in_default.len_at_least in omega
    (arith, length-map c.args.words.now (λ (word : Bor (List ℕ)). word.now))))
