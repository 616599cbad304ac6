-- What follows where a header was read well.
use Rattle.std.proofs.Common.{◌≡◌, ℕ, ◌≤◌, eqb, ltb, List, length, drop, Ok, subst}
use Rattle.std.specs.Prelude.{nat_eq}
use Rattle.std.specs.List.{starts_with}
use Rattle.std.proofs.lemmas.Bool.{ltb-false}
use Rattle.file_model.specs.declared.faults.FileFault.TheVariants.{Magic, Version, NotZero, NodeCount, PatchCount, Truncated}
use Rattle.file_model.specs.Numbers.{number_in}
use Rattle.file_model.specs.Spelling.{magic}
use Rattle.file_model.specs.Reading.{Header, header_in}
use Rattle.file_model.specs.Rules.{is_version, is_node_count, is_patch_count}
use Rattle.file_laws.specs.Steps.{test_ok, rule_ok, ok_is}
use Rattle.patch_file.specs.Headers.{IsHeader}

pub record IsReadHeader (bytes : List ℕ) (header : Header) : Type 0 where
  pub long : 16 ≤ length bytes
  pub rules : IsHeader header

pub header_is : (bytes : List ℕ) (header : Header) → header_in bytes ≡ Ok header → IsReadHeader bytes header
unfolding header_in
header_is bytes header e =
    let short = Truncated (length bytes) in
    let version = number_in 2 (drop 4 bytes) in
    let nodes = number_in 4 (drop 8 bytes) in
    let patches = number_in 4 (drop 12 bytes) in
    let a = test_ok (ltb (length bytes) 4) short _ header e in
    let b = rule_ok (starts_with nat_eq bytes magic) Magic _ header a.1 in
    let c = test_ok (ltb (length bytes) 6) short _ header b.1 in
    let d = rule_ok (is_version version) (Version version) _ header c.1 in
    let f = test_ok (ltb (length bytes) 8) short _ header d.1 in
    let g = rule_ok (eqb (number_in 2 (drop 6 bytes)) 0) NotZero _ header f.1 in
    let h = test_ok (ltb (length bytes) 12) short _ header g.1 in
    let i = rule_ok (is_node_count nodes) (NodeCount nodes) _ header h.1 in
    let j = test_ok (ltb (length bytes) 16) short _ header i.1 in
    let k = rule_ok (is_patch_count patches) (PatchCount patches) _ header j.1 in
    let made : Header = record { version = version; nodes = nodes; patches = patches } in
    subst (IsReadHeader bytes) (ok_is made header k.1) (record { long = ltb-false (length bytes) 16 j.0; rules = record { version = d.0; nodes = i.0; patches = k.0 } })
