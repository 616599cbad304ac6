-- What follows where units were read well.
use Rattle.std.proofs.Common.{◌≡◌, ℕ, zero, suc, ◌+◌, ◌*◌, ◌≤◌, Bool, ltb, List, [], ◌∷◌, length, drop, Result, Ok, refl, sym, ap, subst, arith}
use Rattle.std.specs.Prelude.{IsTrue}
use Rattle.std.specs.List.{list_all}
use Rattle.std.proofs.lemmas.Bool.{and_from, ltb-false}
use Rattle.std.proofs.lemmas.List.{length-drop}
use Rattle.file_model.specs.declared.fields.Node.{Node}
use Rattle.file_model.specs.declared.fields.PatchField.{PatchField}
use Rattle.file_model.specs.declared.faults.FileFault.{FileFault}
use Rattle.file_model.specs.declared.faults.FileFault.TheVariants.{Truncated, NodeOutOfGrid, ArcEnd, BodyCount}
use Rattle.file_model.specs.Lists.{IndexLists, bodies_offset}
use Rattle.file_model.specs.Reading.{◌>>=◌, Header, many_at, node_in, field_in, node_at, field_at, fields_size}
use Rattle.file_model.specs.Rules.{is_node_count, is_patch_count, is_node, has_ends, has_counts, is_field, IsIndex}
use Rattle.file_laws.specs.Steps.{step_ok, test_ok, rule_ok, ok_is}
use Rattle.patch_file.specs.Headers.{IsHeader}

-- a unit that was read is of so many bytes and passes the test
pub record IsUnit {A : Type 0} (size : ℕ) (test : A → Bool) (bytes : List ℕ) (x : A × List ℕ) : Type 0 where
  pub room : length bytes ≡ size + length x.1
  pub passes : IsTrue (test x.0)

abbrev pub IsUnitReader : {A : Type 0} → ℕ → (A → Bool) → (ℕ → List ℕ → Result (A × List ℕ) FileFault) → Type 0
IsUnitReader {A} size test unit = (k : ℕ) (bytes : List ℕ) (x : A × List ℕ) → unit k bytes ≡ Ok x → IsUnit size test bytes x

-- units that were read: so many, each of so many bytes, and each passes the test
pub record AreUnits {A : Type 0} (size : ℕ) (test : A → Bool) (n : ℕ) (bytes : List ℕ) (x : List A × List ℕ) : Type 0 where
  pub count : length x.0 ≡ n
  pub room : length bytes ≡ size * n + length x.1
  pub pass : IsTrue (list_all test x.0)

pub are_units : {A : Type 0} (size : ℕ) (test : A → Bool) (unit : ℕ → List ℕ → Result (A × List ℕ) FileFault) → IsUnitReader size test unit
    → (n k : ℕ) (bytes : List ℕ) (x : List A × List ℕ) → many_at unit n k bytes ≡ Ok x → AreUnits size test n bytes x
unfolding many_at
are_units {A} size test unit is zero k bytes x e =
    let none : List A × List ℕ = ([], bytes) in
    subst (AreUnits size test 0 bytes) (ok_is none x e) (record { count = refl; room = omega arith; pass = refl })
are_units {A} size test unit is (suc n) k bytes x e =
    let first = step_ok (unit k bytes) (λ first. many_at unit n (k + 1) first.1 >>= λ others. Ok (first.0 ∷ others.0, others.1)) x e in
    let others = step_ok (many_at unit n (k + 1) first.0.1) (λ others. Ok (first.0.0 ∷ others.0, others.1)) x first.2 in
    let made : List A × List ℕ = (first.0.0 ∷ others.0.0, others.0.1) in
    let one = is k bytes first.0 first.1 in
    let more = are_units size test unit is n (k + 1) first.0.1 others.0 others.1 in
    subst (AreUnits size test (suc n) bytes) (ok_is made x others.2) (record {
      count = ap suc more.count;
      room = omega (arith, one.room, more.room);
      pass = and_from (test first.0.0) (list_all test others.0.0) one.passes more.pass;
    })

pub node_is : (end : ℕ) → IsUnitReader 20 is_node (node_at end)
unfolding node_at
node_is end v bytes x e =
    let long = test_ok (ltb (length bytes) 20) (Truncated end) _ x e in
    let rule = rule_ok (is_node (node_in bytes)) (NodeOutOfGrid v) _ x long.1 in
    let made : Node × List ℕ = (node_in bytes, drop 20 bytes) in
    subst (IsUnit 20 is_node bytes) (ok_is made x rule.1) (record { room = omega (arith, length-drop 20 bytes, ltb-false (length bytes) 20 long.0); passes = rule.0 })

pub field_is : (nodes end : ℕ) → IsUnitReader 12 (is_field nodes) (field_at nodes end)
unfolding field_at
field_is nodes end p bytes x e =
    let field = field_in bytes in
    let long = test_ok (ltb (length bytes) 12) (Truncated end) _ x e in
    let ends = rule_ok (has_ends nodes field) (ArcEnd p) _ x long.1 in
    let counts = rule_ok (has_counts field) (BodyCount p) _ x ends.1 in
    let made : PatchField × List ℕ = (field, drop 12 bytes) in
    subst (IsUnit 12 (is_field nodes) bytes) (ok_is made x counts.1) (record { room = omega (arith, length-drop 12 bytes, ltb-false (length bytes) 12 long.0); passes = and_from (has_ends nodes field) (has_counts field) ends.0 counts.0 })

-- an index whose nodes and fields were read behind a header
pub record IsReadIndex (header : Header) (bytes : List ℕ) (index : IndexLists) : Type 0 where
  pub rules : IsIndex index
  pub size : bodies_offset index ≡ 16 + fields_size header
  pub read : length bytes ≡ fields_size header

pub index_read : (header : Header) (end : ℕ) (bytes rest ending : List ℕ) (nodes : List Node) (fields : List PatchField) → IsHeader header → length bytes ≤ fields_size header
    → many_at (node_at end) header.nodes 0 bytes ≡ Ok (nodes, rest) → many_at (field_at header.nodes end) header.patches 0 rest ≡ Ok (fields, ending)
    → IsReadIndex header bytes (record { version = header.version; nodes = nodes; fields = fields })
index_read header end bytes rest ending nodes fields is short read_nodes read_fields =
    let first = are_units 20 is_node (node_at end) (node_is end) header.nodes 0 bytes (nodes, rest) read_nodes in
    let second = are_units 12 (is_field header.nodes) (field_at header.nodes end) (field_is header.nodes end) header.patches 0 rest (fields, ending) read_fields in
    record {
      rules = record {
        version = is.version;
        node_count = subst (λ n. IsTrue (is_node_count n)) (sym first.count) is.nodes;
        patch_count = subst (λ n. IsTrue (is_patch_count n)) (sym second.count) is.patches;
        nodes = first.pass;
        fields = subst (λ n. IsTrue (list_all (is_field n) fields)) (sym first.count) second.pass;
      };
      size = omega (arith, first.count, second.count);
      read = omega (arith, first.room, second.room);
    }
