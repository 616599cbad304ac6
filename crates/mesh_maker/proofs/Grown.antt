-- Parts grow node by node and patch by patch.
use Rattle.std.proofs.Common.{◌≡◌, ℕ, ◌+◌, ◌-◌, ◌≤◌, List, [], ◌∷◌, ◌++◌, map, Result, Ok, Err, refl, sym, ap, ◌∙◌, append_assoc, append-nil, arith}
use Rattle.std.specs.Prelude.{OnOk}
use Rattle.std.specs.List.{flat_map, range_with_len}
use Rattle.std.proofs.lemmas.Grind.{flat_map-append}
use Rattle.std.proofs.lemmas.List.{map-append}
use Rattle.std.proofs.lemmas.List.FromFn.{map-range_with_len_more}
use Rattle.file_model.specs.declared.fields.Node.{Node}
use Rattle.file_model.specs.Lists.{FileLists}
use Rattle.strip_laws.specs.Strip.{StripPatch, root_node, square_node, edge_node, sink_node, strip_nodes, square, halves, opened, strip_patches, fields_of, bodies_of, strip_file}
use Rattle.patch_file.specs.PartsState.{no_parts}
use Rattle.mesh_maker.specs.Parts.{with_nodes, with_patches}

-- ---- two lots are one

pub nodes_twice : (parts : FileLists) (ns ms : List Node) → with_nodes (with_nodes parts ns) ms ≡ with_nodes parts (ns ++ ms)
nodes_twice parts ns ms = λ i. record {
  index = record { version = parts.index.version; nodes = append_assoc parts.index.nodes ns ms i; fields = parts.index.fields };
  bodies = parts.bodies;
}

pub patches_twice : (parts : FileLists) (ps qs : List StripPatch) → with_patches (with_patches parts ps) qs ≡ with_patches parts (ps ++ qs)
patches_twice parts ps qs =
    let fields : (parts.index.fields ++ fields_of ps) ++ fields_of qs ≡ parts.index.fields ++ fields_of (ps ++ qs) = append_assoc parts.index.fields (fields_of ps) (fields_of qs) ∙ ap (λ fs. parts.index.fields ++ fs) (sym (map-append (λ (p : StripPatch). p.field) ps qs)) in
    let bodies : (parts.bodies ++ bodies_of ps) ++ bodies_of qs ≡ parts.bodies ++ bodies_of (ps ++ qs) = append_assoc parts.bodies (bodies_of ps) (bodies_of qs) ∙ ap (λ bs. parts.bodies ++ bs) (sym (map-append (λ (p : StripPatch). p.body) ps qs)) in
    λ i. record { index = record { version = parts.index.version; nodes = parts.index.nodes; fields = fields i }; bodies = bodies i }

pub nodes_none : (parts : FileLists) → parts ≡ with_nodes parts []
nodes_none parts = λ i. record {
  index = record { version = parts.index.version; nodes = sym (append-nil parts.index.nodes) i; fields = parts.index.fields };
  bodies = parts.bodies;
}

pub patches_none : (parts : FileLists) → parts ≡ with_patches parts []
patches_none parts = λ i. record {
  index = record { version = parts.index.version; nodes = parts.index.nodes; fields = sym (append-nil parts.index.fields) i };
  bodies = sym (append-nil parts.bodies) i;
}

-- ---- steps of loops

zero_plus : (n : ℕ) → 0 + n ≡ n
zero_plus n = omega arith

itself_mapped : (ns : List ℕ) → map (λ n. n) ns ≡ ns
itself_mapped [] = refl
itself_mapped (n ∷ ns) = ap (λ ms. n ∷ ms) (itself_mapped ns)

range_more : (n : ℕ) → range_with_len 0 (n + 1) ≡ range_with_len 0 n ++ n ∷ []
range_more n = sym (itself_mapped (range_with_len 0 (n + 1))) ∙ map-range_with_len_more (λ k. k) 0 n n (zero_plus n) ∙ ap (λ ks. ks ++ n ∷ []) (itself_mapped (range_with_len 0 n))

flat_range_more : (f : ℕ → List StripPatch) (n : ℕ) → flat_map f (range_with_len 0 (n + 1)) ≡ flat_map f (range_with_len 0 n) ++ f n
flat_range_more f n = ap (λ ks. flat_map f ks) (range_more n) ∙ flat_map-append f (range_with_len 0 n) (n ∷ []) ∙ ap (λ ps. flat_map f (range_with_len 0 n) ++ ps) (append-nil (f n))

pub nodes_more : (start parts after : FileLists) (f : ℕ → Node) (n : ℕ) → parts ≡ with_nodes start (map f (range_with_len 0 n)) → after ≡ with_nodes parts (f n ∷ []) → after ≡ with_nodes start (map f (range_with_len 0 (n + 1)))
nodes_more start parts after f n is adds =
    adds ∙ ap (λ (p : FileLists). with_nodes p (f n ∷ [])) is ∙ nodes_twice start (map f (range_with_len 0 n)) (f n ∷ []) ∙ ap (λ (ns : List Node). with_nodes start ns) (sym (map-range_with_len_more f 0 n n (zero_plus n)))

-- the edges count from 1
pub edges_more : (start parts after : FileLists) (f : ℕ → Node) (k : ℕ) → 1 ≤ k → parts ≡ with_nodes start (map f (range_with_len 1 (k - 1))) → after ≡ with_nodes parts (f k ∷ []) → after ≡ with_nodes start (map f (range_with_len 1 (k + 1 - 1)))
edges_more start parts after f k some is adds =
    let next : k + 1 - 1 ≡ k - 1 + 1 = omega arith in
    let at : 1 + (k - 1) ≡ k = omega arith in
    adds ∙ ap (λ (p : FileLists). with_nodes p (f k ∷ [])) is ∙ nodes_twice start (map f (range_with_len 1 (k - 1))) (f k ∷ [])
    ∙ ap (λ (ns : List Node). with_nodes start ns) (sym (ap (λ n. map f (range_with_len 1 n)) next ∙ map-range_with_len_more f 1 (k - 1) k at))

pub patches_more : (start parts after : FileLists) (f : ℕ → StripPatch) (n : ℕ) → parts ≡ with_patches start (map f (range_with_len 0 n)) → after ≡ with_patches parts (f n ∷ []) → after ≡ with_patches start (map f (range_with_len 0 (n + 1)))
patches_more start parts after f n is adds =
    adds ∙ ap (λ (p : FileLists). with_patches p (f n ∷ [])) is ∙ patches_twice start (map f (range_with_len 0 n)) (f n ∷ []) ∙ ap (λ (ps : List StripPatch). with_patches start ps) (sym (map-range_with_len_more f 0 n n (zero_plus n)))

pub halves_more : (start parts after : FileLists) (f : ℕ → List StripPatch) (n : ℕ) → parts ≡ with_patches start (flat_map f (range_with_len 0 n)) → after ≡ with_patches parts (f n) → after ≡ with_patches start (flat_map f (range_with_len 0 (n + 1)))
halves_more start parts after f n is adds =
    adds ∙ ap (λ (p : FileLists). with_patches p (f n)) is ∙ patches_twice start (flat_map f (range_with_len 0 n)) (f n) ∙ ap (λ (ps : List StripPatch). with_patches start ps) (sym (flat_range_more f n))

-- ---- the whole strip

pub all_nodes : {T E : Type 0} (result : Result T E) (start first second third last : FileLists) (root sink : Node) (c : ℕ) → first ≡ with_nodes start (root ∷ []) → second ≡ with_nodes first (map square_node (range_with_len 0 c)) → third ≡ with_nodes second (map edge_node (range_with_len 1 (c - 1)))
    → root ≡ root_node c → sink ≡ sink_node → OnOk result (last ≡ with_nodes third (sink ∷ [])) → OnOk result (last ≡ with_nodes start (strip_nodes c))
unfolding strip_nodes
all_nodes (Ok x) start first second third last root sink c one two three at_root at_sink four =
    let squares = map square_node (range_with_len 0 c) in
    let edges = map edge_node (range_with_len 1 (c - 1)) in
    four ∙ ap (λ (p : FileLists). with_nodes p (sink ∷ [])) (three ∙ ap (λ (p : FileLists). with_nodes p edges) (two ∙ ap (λ (p : FileLists). with_nodes p squares) one))
    ∙ nodes_twice (with_nodes (with_nodes start (root ∷ [])) squares) edges (sink ∷ [])
    ∙ nodes_twice (with_nodes start (root ∷ [])) squares (edges ++ sink ∷ [])
    ∙ nodes_twice start (root ∷ []) (squares ++ (edges ++ sink ∷ []))
    ∙ (λ i. with_nodes start (at_root i ∷ (squares ++ (edges ++ at_sink i ∷ []))))
all_nodes (Err e) start first second third last root sink c one two three at_root at_sink four = four

pub whole_strip : (version c : ℕ) (none nodes squares both rounds : FileLists) → none ≡ no_parts version → nodes ≡ with_nodes none (strip_nodes c) → squares ≡ with_patches nodes (map square (range_with_len 0 c)) → both ≡ with_patches squares (flat_map (halves c) (range_with_len 0 c)) → rounds ≡ with_patches both (map (opened c) (range_with_len 0 (c - 1)))
    → rounds ≡ strip_file version c
unfolding strip_patches
whole_strip version c none nodes squares both rounds zeroth first second third fourth =
    let start = with_nodes (no_parts version) (strip_nodes c) in
    let ps = map square (range_with_len 0 c) in
    let qs = flat_map (halves c) (range_with_len 0 c) in
    let rs = map (opened c) (range_with_len 0 (c - 1)) in
    fourth ∙ ap (λ (p : FileLists). with_patches p rs) (third ∙ ap (λ (p : FileLists). with_patches p qs) (second ∙ ap (λ (p : FileLists). with_patches p ps) (first ∙ ap (λ (p : FileLists). with_nodes p (strip_nodes c)) zeroth)))
    ∙ patches_twice (with_patches start ps) qs rs ∙ patches_twice start ps (qs ++ rs)
