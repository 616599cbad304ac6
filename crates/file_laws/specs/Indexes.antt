-- What stands before the bodies: what is read is spelled so, and what is spelled so is read.
use Rattle.std.proofs.Common.{◌≡◌, ℕ, ◌+◌, ◌^◌, ◌<◌, ◌≤◌, false, eqb, leb, ltb, List, [], ◌++◌, length, take, drop, Ok, refl, sym, ap, subst, ◌∙◌, append_assoc, arith, inl, inr}
use Rattle.std.specs.Prelude.{IsTrue, nat_eq, ◌==◌}
use Rattle.std.specs.List.{flat_map, list_all, starts_with}
use Rattle.std.specs.Cmp.Lexicographic.{bytes_decides}
use Rattle.std.proofs.lemmas.Bool.{and_parts, and_from, or_cases, ltb-false, ltb-true, le-ltb, leb-true, eqb-true}
use Rattle.std.proofs.lemmas.List.{append-nil, drop_at, drop-drop, length-append, length-drop, length-take, take_at, take-append-drop, take-take}
use Rattle.file_model.specs.declared.fields.Node.{Node}
use Rattle.file_model.specs.declared.fields.PatchField.{PatchField}
use Rattle.file_model.specs.declared.faults.FileFault.TheVariants.{Magic, Version, NotZero, NodeCount, PatchCount, Truncated, NodeOutOfGrid, ArcEnd, BodyCount}
use Rattle.file_model.specs.Numbers.{number_text, number_in}
use Rattle.file_model.specs.Lists.{IndexLists, bodies_offset}
use Rattle.file_model.specs.Spelling.{magic, node_text, field_text, header_text, index_text}
use Rattle.file_model.specs.Reading.{◌>>=◌, many_at, node_in, field_in, Header, header_in, node_at, field_at, fields_size, fields_in, index_in}
use Rattle.file_model.specs.Rules.{is_version, is_between, is_node_count, is_patch_count, is_node, has_ends, has_counts, is_field, IsIndex}
use Rattle.file_laws.specs.Numbers.{IsBytes, IsBytes-drop, IsBytes-take, length-number_text, number_in-text, number_text-in}
use Rattle.file_laws.specs.Units.{both, take_both, drop_past, length-each, length-node_text, node_in-text, node_text-in, FitsField, length-field_text, field_in-text, field_text-in}
use Rattle.file_laws.specs.Steps.{step_ok, test_ok, rule_ok, ok_is, done, Takes, Takes-then, Takes-front, front_is_all, UnitTakes, UnitAgain, many_take, many_again}

-- ---- nodes and fields

node_takes : (end : ℕ) → UnitTakes (node_at end) node_text is_node
unfolding node_at
node_takes end v bytes x fits e =
    let t = test_ok (ltb (length bytes) 20) (Truncated end) _ x e in
    let r = rule_ok (is_node (node_in bytes)) (NodeOutOfGrid v) _ x t.1 in
    let made : Node × List ℕ = (node_in bytes, drop 20 bytes) in
    let took = Takes-front 20 bytes (node_text (node_in bytes)) fits (node_text-in bytes fits (ltb-false (length bytes) 20 t.0)) in
    subst (λ (y : Node × List ℕ). Takes bytes (node_text y.0) y.1 × IsTrue (is_node y.0)) (ok_is made x r.1) (took, r.0)

node_again : (end : ℕ) → UnitAgain (node_at end) node_text is_node
unfolding node_at
node_again end v n rest h =
    let long : ltb (length (node_text n ++ rest)) 20 ≡ false = le-ltb _ 20 (omega (arith, length-append (node_text n) rest, length-node_text n)) in
    let back = node_in-text n rest h in
    rw (long, ap is_node back ∙ h, back, drop_at (node_text n) rest 20 (length-node_text n)) refl

-- a number in a range is at most its last
pub between_most : (low high n : ℕ) → IsTrue (is_between low high n) → n ≤ high
between_most low high n h = leb-true n high (and_parts (leb low n) (leb n high) h).1

FitsField-from : (nodes : ℕ) (f : PatchField) → nodes ≤ 65536 → IsTrue (is_field nodes f) → FitsField f
FitsField-from nodes f few h =
    let parts = and_parts (has_ends nodes f) (has_counts f) h in
    let ends = and_parts (ltb f.tail nodes) (ltb f.head nodes) parts.0 in
    let counts = and_parts (is_between 1 65535 f.points) (is_between 1 65535 f.triangles) parts.1 in
    record {
      tail = omega (arith, ltb-true f.tail nodes ends.0);
      head = omega (arith, ltb-true f.head nodes ends.1);
      points = omega (arith, between_most 1 65535 f.points counts.0);
      triangles = omega (arith, between_most 1 65535 f.triangles counts.1);
    }

field_takes : (nodes end : ℕ) → UnitTakes (field_at nodes end) field_text (is_field nodes)
unfolding field_at
field_takes nodes end p bytes x fits e =
    let f = field_in bytes in
    let t = test_ok (ltb (length bytes) 12) (Truncated end) _ x e in
    let ends = rule_ok (has_ends nodes f) (ArcEnd p) _ x t.1 in
    let counts = rule_ok (has_counts f) (BodyCount p) _ x ends.1 in
    let made : PatchField × List ℕ = (f, drop 12 bytes) in
    let took = Takes-front 12 bytes (field_text f) fits (field_text-in bytes fits (ltb-false (length bytes) 12 t.0)) in
    let passes : IsTrue (is_field nodes f) = and_from (has_ends nodes f) (has_counts f) ends.0 counts.0 in
    subst (λ (y : PatchField × List ℕ). Takes bytes (field_text y.0) y.1 × IsTrue (is_field nodes y.0)) (ok_is made x counts.1) (took, passes)

field_again : (nodes end : ℕ) → nodes ≤ 65536 → UnitAgain (field_at nodes end) field_text (is_field nodes)
unfolding field_at
field_again nodes end few p f rest h =
    let rules = and_parts (has_ends nodes f) (has_counts f) h in
    let long : ltb (length (field_text f ++ rest)) 12 ≡ false = le-ltb _ 12 (omega (arith, length-append (field_text f) rest, length-field_text f)) in
    let back = field_in-text f rest (FitsField-from nodes f few h) in
    rw (long, ap (has_ends nodes) back ∙ rules.0, ap has_counts back ∙ rules.1, back, drop_at (field_text f) rest 12 (length-field_text f)) refl

-- ---- the header

-- the bytes of a header
abbrev header_bytes : Header → List ℕ
header_bytes h = magic ++ (number_text 2 h.version ++ (number_text 2 0 ++ (number_text 4 h.nodes ++ number_text 4 h.patches)))

length-header_bytes : (h : Header) → length (header_bytes h) ≡ 16
length-header_bytes h =
    let v = number_text 2 h.version in
    let z = number_text 2 0 in
    let n = number_text 4 h.nodes in
    let p = number_text 4 h.patches in
    length-append magic (v ++ (z ++ (n ++ p)))
    ∙ omega (arith, length-append v (z ++ (n ++ p)), length-append z (n ++ p), length-append n p, length-number_text 2 h.version, length-number_text 2 0, length-number_text 4 h.nodes, length-number_text 4 h.patches)

-- the rules of a header
record IsHeader (h : Header) : Type 0 where
  version : IsTrue (is_version h.version)
  node_count : IsTrue (is_node_count h.nodes)
  patch_count : IsTrue (is_patch_count h.patches)

begins : (bytes : List ℕ) → IsTrue (starts_with nat_eq bytes magic) → magic ≡ take 4 bytes
begins bytes h = (bytes_decides magic (take 4 bytes)).0 h

-- the header that stands in 16 bytes
abbrev header_of : List ℕ → Header
header_of bytes = record { version = number_in 2 (drop 4 bytes); nodes = number_in 4 (drop 8 bytes); patches = number_in 4 (drop 12 bytes) }

header_bytes-in : (bytes : List ℕ) → IsBytes bytes → 16 ≤ length bytes → IsTrue (starts_with nat_eq bytes magic) → number_in 2 (drop 6 bytes) ≡ 0 → header_bytes (header_of bytes) ≡ take 16 bytes
header_bytes-in bytes fits long start no_number =
    let from4 : List ℕ = drop 4 bytes in
    let from6 : List ℕ = drop 2 from4 in
    let from8 : List ℕ = drop 2 from6 in
    let at6 : drop 6 bytes ≡ from6 = sym (drop-drop 2 4 bytes) in
    let at8 : drop 8 bytes ≡ from8 = sym (drop-drop 2 6 bytes) ∙ ap (drop 2) at6 in
    let at12 : drop 12 bytes ≡ drop 4 from8 = sym (drop-drop 4 8 bytes) ∙ ap (drop 4) at8 in
    let at : (w i : ℕ) → i + w ≤ 16 → number_text w (number_in w (drop i bytes)) ≡ take w (drop i bytes) = λ w i le. number_text-in w (drop i bytes) (IsBytes-drop i bytes fits) (omega (arith, length-drop i bytes)) in
    let version = at 2 4 (omega arith) in
    let none : number_text 2 0 ≡ take 2 from6 = ap (number_text 2) (sym no_number) ∙ at 2 6 (omega arith) ∙ ap (take 2) at6 in
    let nodes = at 4 8 (omega arith) ∙ ap (take 4) at8 in
    let patches = at 4 12 (omega arith) ∙ ap (take 4) at12 in
    take_both 4 12 bytes _ _ (begins bytes start) (take_both 2 10 from4 _ _ version (take_both 2 8 from6 _ _ none (take_both 4 4 from8 _ _ nodes patches)))

-- what a header that was read is
record IsReadHeader (bytes : List ℕ) (h : Header) : Type 0 where
  text : header_bytes h ≡ take 16 bytes
  rules : IsHeader h

header_take : (bytes : List ℕ) (h : Header) → IsBytes bytes → header_in bytes ≡ Ok h → IsReadHeader bytes h
unfolding header_in
header_take bytes h fits e =
    let n = length bytes in
    let a = test_ok (ltb n 4) (Truncated n) _ h e in
    let b = rule_ok (starts_with nat_eq bytes magic) Magic _ h a.1 in
    let c = test_ok (ltb n 6) (Truncated n) _ h b.1 in
    let d = rule_ok (is_version (number_in 2 (drop 4 bytes))) (Version (number_in 2 (drop 4 bytes))) _ h c.1 in
    let f = test_ok (ltb n 8) (Truncated n) _ h d.1 in
    let g = rule_ok (number_in 2 (drop 6 bytes) == 0) NotZero _ h f.1 in
    let i = test_ok (ltb n 12) (Truncated n) _ h g.1 in
    let j = rule_ok (is_node_count (number_in 4 (drop 8 bytes))) (NodeCount (number_in 4 (drop 8 bytes))) _ h i.1 in
    let k = test_ok (ltb n 16) (Truncated n) _ h j.1 in
    let l = rule_ok (is_patch_count (number_in 4 (drop 12 bytes))) (PatchCount (number_in 4 (drop 12 bytes))) _ h k.1 in
    let long : 16 ≤ length bytes = ltb-false n 16 k.0 in
    let text = header_bytes-in bytes fits long b.0 (eqb-true (number_in 2 (drop 6 bytes)) 0 g.0) in
    subst (IsReadHeader bytes) (ok_is (header_of bytes) h l.1) (record { text = text; rules = record { version = d.0; node_count = j.0; patch_count = l.0 } })

header_same : (h k : Header) → h.version ≡ k.version → h.nodes ≡ k.nodes → h.patches ≡ k.patches → h ≡ k
header_same h k v n p = rw (v, n, p) refl

header_read : (bytes : List ℕ) → length bytes ≡ 16 → IsTrue (starts_with nat_eq bytes magic) → number_in 2 (drop 6 bytes) ≡ 0 → IsHeader (header_of bytes) → header_in bytes ≡ Ok (header_of bytes)
unfolding header_in
header_read bytes len start no_number rules = rw (len, start, no_number, rules.version, rules.node_count, rules.patch_count) refl

version_fits : (version : ℕ) → IsTrue (is_version version) → version < 256 ^ 2
version_fits version h =
    elim (or_cases (eqb version 1) (eqb version 2) h) [
      | inl one ↦ omega (arith, eqb-true version 1 one)
      | inr two ↦ omega (arith, eqb-true version 2 two)
    ]

header_again : (h : Header) → IsHeader h → header_in (header_bytes h) ≡ Ok h
header_again h rules =
    let p = number_text 4 h.patches in
    let from8 : List ℕ = number_text 4 h.nodes ++ p in
    let from6 : List ℕ = number_text 2 0 ++ from8 in
    let from4 : List ℕ = number_text 2 h.version ++ from6 in
    let at6 : drop 6 (magic ++ from4) ≡ from6 = drop_past magic from4 4 2 refl ∙ drop_at (number_text 2 h.version) from6 2 (length-number_text 2 h.version) in
    let at8 : drop 8 (magic ++ from4) ≡ from8 = drop_past magic from4 4 4 refl ∙ drop_past (number_text 2 h.version) from6 2 2 (length-number_text 2 h.version) ∙ drop_at (number_text 2 0) from8 2 (length-number_text 2 0) in
    let at12 : drop 12 (magic ++ from4) ≡ p = sym (drop-drop 4 8 (magic ++ from4)) ∙ ap (drop 4) at8 ∙ drop_at (number_text 4 h.nodes) p 4 (length-number_text 4 h.nodes) in
    let version : number_in 2 (drop 4 (magic ++ from4)) ≡ h.version = number_in-text 2 h.version from6 (version_fits h.version rules.version) in
    let none : number_in 2 (drop 6 (magic ++ from4)) ≡ 0 = ap (number_in 2) at6 ∙ number_in-text 2 0 from8 (omega arith) in
    let nodes : number_in 4 (drop 8 (magic ++ from4)) ≡ h.nodes = ap (number_in 4) at8 ∙ number_in-text 4 h.nodes p (omega (arith, between_most 2 65536 h.nodes rules.node_count)) in
    let patches : number_in 4 (drop 12 (magic ++ from4)) ≡ h.patches = ap (number_in 4) (at12 ∙ sym (append-nil p)) ∙ number_in-text 4 h.patches [] (omega (arith, between_most 1 65536 h.patches rules.patch_count)) in
    let is : header_of (magic ++ from4) ≡ h = header_same (header_of (magic ++ from4)) h version nodes patches in
    header_read (magic ++ from4) (length-header_bytes h) refl none (subst IsHeader (sym is) rules) ∙ ap done is

-- ---- the nodes and the fields

-- the header of an index
abbrev header_for : IndexLists → Header
header_for index = record { version = index.version; nodes = length index.nodes; patches = length index.fields }

-- the spelling of the nodes and the fields
abbrev fields_text : IndexLists → List ℕ
fields_text index = flat_map node_text index.nodes ++ flat_map field_text index.fields

length-fields_text : (index : IndexLists) → length (fields_text index) ≡ fields_size (header_for index)
length-fields_text index =
    length-append (flat_map node_text index.nodes) (flat_map field_text index.fields)
    ∙ omega (arith, length-each node_text 20 length-node_text index.nodes, length-each field_text 12 length-field_text index.fields)

-- what the nodes and the fields that were read are
record AreReadFields (header : Header) (bytes : List ℕ) (index : IndexLists) : Type 0 where
  text : bytes ≡ fields_text index
  header_is : header ≡ header_for index
  nodes : IsTrue (list_all is_node index.nodes)
  fields : IsTrue (list_all (is_field (length index.nodes)) index.fields)

fields_take : (header : Header) (bytes : List ℕ) (index : IndexLists) → IsBytes bytes → length bytes ≤ fields_size header → fields_in header bytes ≡ Ok index → AreReadFields header bytes index
unfolding fields_in
fields_take header bytes index fits short e =
    let end = 16 + length bytes in
    let a = step_ok (many_at (node_at end) header.nodes 0 bytes) (λ nodes. many_at (field_at header.nodes end) header.patches 0 nodes.1 >>= λ fields. Ok (record { version = header.version; nodes = nodes.0; fields = fields.0 })) index e in
    let b = step_ok (many_at (field_at header.nodes end) header.patches 0 a.0.1) (λ fields. Ok (record { version = header.version; nodes = a.0.0; fields = fields.0 })) index a.2 in
    let made : IndexLists = record { version = header.version; nodes = a.0.0; fields = b.0.0 } in
    let nodes = many_take (node_at end) node_text is_node (node_takes end) header.nodes 0 bytes a.0 fits a.1 in
    let fields = many_take (field_at header.nodes end) field_text (is_field header.nodes) (field_takes header.nodes end) header.patches 0 a.0.1 b.0 nodes.takes.rest_fits b.1 in
    let both = Takes-then bytes (flat_map node_text a.0.0) a.0.1 (flat_map field_text b.0.0) b.0.1 nodes.takes fields.takes in
    let header_is : header ≡ header_for made = header_same header (header_for made) refl (sym nodes.count) (sym fields.count) in
    let text = front_is_all bytes (fields_text made) b.0.1 both.parts (omega (arith, length-fields_text made, ap fields_size header_is)) in
    subst (AreReadFields header bytes) (ok_is made index b.2) (record {
      text = text;
      header_is = header_is;
      nodes = nodes.pass;
      fields = subst (λ (n : ℕ). IsTrue (list_all (is_field n) b.0.0)) (sym nodes.count) fields.pass;
    })

fields_again : (index : IndexLists) → length index.nodes ≤ 65536 → IsTrue (list_all is_node index.nodes) → IsTrue (list_all (is_field (length index.nodes)) index.fields) → fields_in (header_for index) (fields_text index) ≡ Ok index
unfolding fields_in
fields_again index few nodes fields =
    let n = length index.nodes in
    let behind = flat_map field_text index.fields in
    let end = 16 + length (fields_text index) in
    let first : many_at (node_at end) n 0 (fields_text index) ≡ Ok (index.nodes, behind) = many_again (node_at end) node_text is_node (node_again end) 0 index.nodes behind nodes in
    let second : many_at (field_at n end) (length index.fields) 0 behind ≡ Ok (index.fields, []) = ap (many_at (field_at n end) (length index.fields) 0) (sym (append-nil behind)) ∙ many_again (field_at n end) field_text (is_field n) (field_again n end few) 0 index.fields [] fields in
    rw (first, second) refl

-- ---- all that stands before the bodies

header_text-is : (index : IndexLists) → header_text index ≡ header_bytes (header_for index)
unfolding header_text
header_text-is index = refl

pub length-header_text : (index : IndexLists) → length (header_text index) ≡ 16
length-header_text index = ap length (header_text-is index) ∙ length-header_bytes (header_for index)

pub length-index_text : (index : IndexLists) → length (index_text index) ≡ bodies_offset index
unfolding index_text
length-index_text index =
    length-append (header_text index) (fields_text index) ∙ omega (arith, length-header_text index, length-fields_text index)

-- what an index that was read is
pub record IsReadIndex (bytes : List ℕ) (index : IndexLists) : Type 0 where
  pub text : bytes ≡ index_text index ++ drop (bodies_offset index) bytes
  pub rules : IsIndex index

-- found: an index that is read is spelled so, and is one
pub index_text-in : (bytes : List ℕ) (index : IndexLists) → IsBytes bytes → index_in bytes ≡ Ok index → IsReadIndex bytes index
unfolding index_in index_text
index_text-in bytes index fits e =
    let a = step_ok (header_in (take 16 bytes)) (λ header. fields_in header (take (fields_size header) (drop 16 bytes))) index e in
    let header = a.0 in
    let size = fields_size header in
    let front = header_take (take 16 bytes) header (IsBytes-take 16 bytes fits) a.1 in
    let behind = fields_take header (take size (drop 16 bytes)) index (IsBytes-take size (drop 16 bytes) (IsBytes-drop 16 bytes fits)) (omega (arith, length-take size (drop 16 bytes))) a.2 in
    let header_is : take 16 bytes ≡ header_text index = sym (take-take 16 16 bytes (omega arith)) ∙ sym front.text ∙ ap header_bytes behind.header_is ∙ sym (header_text-is index) in
    let offset : 16 + size ≡ bodies_offset index = omega (arith, ap fields_size behind.header_is) in
    let rest : drop size (drop 16 bytes) ≡ drop (bodies_offset index) bytes = drop-drop size 16 bytes ∙ ap (λ (n : ℕ). drop n bytes) offset in
    let second : drop 16 bytes ≡ fields_text index ++ drop (bodies_offset index) bytes = sym (take-append-drop size (drop 16 bytes)) ∙ both behind.text rest in
    let whole : bytes ≡ header_text index ++ (fields_text index ++ drop (bodies_offset index) bytes) = sym (take-append-drop 16 bytes) ∙ both header_is second in
    let is : IsHeader (header_for index) = subst IsHeader behind.header_is front.rules in
    record {
      text = whole ∙ sym (append_assoc (header_text index) (fields_text index) (drop (bodies_offset index) bytes));
      rules = record {
        version = is.version;
        node_count = is.node_count;
        patch_count = is.patch_count;
        nodes = behind.nodes;
        fields = behind.fields;
      };
    }

-- again: an index that is spelled is read
pub index_in-text : (index : IndexLists) (rest : List ℕ) → IsIndex index → index_in (index_text index ++ rest) ≡ Ok index
unfolding index_in index_text
index_in-text index rest is =
    let front = header_text index in
    let behind = fields_text index in
    let whole : (front ++ behind) ++ rest ≡ front ++ (behind ++ rest) = append_assoc front behind rest in
    let first : take 16 (front ++ (behind ++ rest)) ≡ header_bytes (header_for index) = take_at front (behind ++ rest) 16 (length-header_text index) ∙ header_text-is index in
    let second : take (fields_size (header_for index)) (drop 16 (front ++ (behind ++ rest))) ≡ behind = ap (take (fields_size (header_for index))) (drop_at front (behind ++ rest) 16 (length-header_text index)) ∙ take_at behind rest (fields_size (header_for index)) (length-fields_text index) in
    let header : header_in (take 16 (front ++ (behind ++ rest))) ≡ Ok (header_for index) = ap header_in first ∙ header_again (header_for index) (record { version = is.version; node_count = is.node_count; patch_count = is.patch_count }) in
    let fields : fields_in (header_for index) (take (fields_size (header_for index)) (drop 16 (front ++ (behind ++ rest)))) ≡ Ok index = ap (fields_in (header_for index)) second ∙ fields_again index (between_most 2 65536 (length index.nodes) is.node_count) is.nodes is.fields in
    ap index_in whole ∙ rw header fields
