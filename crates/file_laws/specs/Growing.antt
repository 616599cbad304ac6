-- A file's first fault stays whatever bytes follow, and an end that comes too early is told with the file's length.
use Rattle.std.proofs.Common.{◌≡◌, ℕ, ◌+◌, ◌-◌, ◌*◌, ◌≤◌, Bool, false, not, cond, eqb, leb, List, [], ◌∷◌, ◌++◌, length, take, drop, Result, Ok, Err, refl, sym, ap, ◌∙◌, arith, inl, inr}
use Rattle.std.specs.Prelude.{nat_eq, ◌==◌}
use Rattle.std.specs.List.{list_any, starts_with}
use Rattle.std.specs.Ordering.{int_eq}
use Rattle.std.proofs.lemmas.Bool.{cases_Bool, cases_lt, lt-leb, leb-false}
use Rattle.std.proofs.Math.Seq.{take-append-add}
use Rattle.std.proofs.lemmas.List.{append-nil, take-append-le, drop-append-le, length-append, length-drop, length-take, take_all}
use Rattle.grid_vertex.specs.declared.points.Point.{Point}
use Rattle.file_model.specs.declared.fields.PatchField.{PatchField}
use Rattle.file_model.specs.declared.faults.FileFault.{FileFault}
use Rattle.file_model.specs.declared.faults.FileFault.TheVariants.{Magic, Version, NotZero, NodeCount, PatchCount, Truncated, Trailing, Loose}
use Rattle.file_model.specs.Numbers.{number_in}
use Rattle.file_model.specs.Lists.{BodyLists, IndexLists, FileLists, body_size, bodies_size, bodies_offset}
use Rattle.file_model.specs.Spelling.{magic}
use Rattle.file_model.specs.Reading.{◌>>=◌, many_at, point_in, Header, header_in, node_at, field_at, fields_size, fields_in, index_in, point_at, shifted_at, tight, shifted_points_at, points_at, triangle_at, body_in, body_of_file, bodies_in, file_size, end_in, file_in}
use Rattle.file_model.specs.Rules.{is_version, is_node_count, is_patch_count}
use Rattle.file_laws.specs.Appended.{IsLasting, Stays, Stays-then, Stays-long, Stays-test, number-at, point-append, GiveSameList, EndsEarly, EndsEarly-wider, many_stay, node_stays, field_stays, point_stays, shifted_stays, triangle_stays}

Stays-weaker : {A B : Type 0} (rel : A → B → Type 0) (cut : ℕ → Type 0) (weaker : A → B → Type 0) (weaker_cut : ℕ → Type 0) (r : Result A FileFault) (s : Result B FileFault)
    → Stays rel cut r s → ((x : A) (y : B) → rel x y → weaker x y) → ((end : ℕ) → cut end → weaker_cut end) → Stays weaker weaker_cut r s
Stays-weaker rel cut weaker weaker_cut (Ok x) s stays of of_cut = (stays.0, stays.1, of x stays.0 stays.2)
Stays-weaker rel cut weaker weaker_cut (Err fault) s stays of of_cut = (λ end is. of_cut end (stays.0 end is), stays.1)

-- ---- a piece of a file, and the same piece where more follows

-- the front of a string that goes on: the same front, and what the string lacked of it
piece-append : (n : ℕ) (bytes more : List ℕ) → take n (bytes ++ more) ≡ take n bytes ++ take (n - length (take n bytes)) more
piece-append n bytes more =
    elim (cases_lt (length bytes) n) [
      | inl few ↦
          let parts : n ≡ length bytes + (n - length bytes) = omega arith in
          rw (take_all n bytes (omega arith)) (ap (λ (k : ℕ). take k (bytes ++ more)) parts ∙ take-append-add bytes more (n - length bytes))
      | inr enough ↦
          let none : n - length (take n bytes) ≡ 0 = omega (arith, length-take n bytes) in
          rw none (take-append-le n bytes more enough ∙ sym (append-nil (take n bytes)))
    ]

-- ---- a body

tight_stays : (origin : Point) (patch count size : ℕ) (bytes more : List ℕ) (cut : ℕ → Type 0) (x y : List Point × List ℕ) → GiveSameList count size bytes more x y → Stays (GiveSameList count size bytes more) cut (tight origin patch x) (tight origin patch y)
unfolding tight
tight_stays origin patch count size bytes more cut x y gives =
    let rel : List Point × List ℕ → List Point × List ℕ → Type 0 = GiveSameList count size bytes more in
    let on_x : List Point → Bool = list_any (λ (p : Point). int_eq p.x origin.x) in
    let on_y : List Point → Bool = list_any (λ (p : Point). int_eq p.y origin.y) in
    let on_z : List Point → Bool = list_any (λ (p : Point). int_eq p.z origin.z) in
    rw gives.same
    (Stays-test rel cut (not (on_x x.0)) (Loose patch 0) _ _ (λ e is. cc)
    (Stays-test rel cut (not (on_y x.0)) (Loose patch 1) _ _ (λ e is. cc)
    (Stays-test rel cut (not (on_z x.0)) (Loose patch 2) _ _ (λ e is. cc)
    ((x.0, y.1), refl, record { same = refl; behind = gives.behind; room = gives.room; as_many = gives.as_many }))))

-- how many bytes so many points have
abbrev points_size : ℕ → ℕ → ℕ
points_size version count = cond (eqb version 2) (12 + 6 * count) (12 * count)

shifted_points_stay : (count patch end longer_end : ℕ) (bytes more : List ℕ) → Stays (GiveSameList count (12 + 6 * count) bytes more) (EndsEarly end (12 + 6 * count) bytes) (shifted_points_at count patch end bytes) (shifted_points_at count patch longer_end (bytes ++ more))
unfolding shifted_points_at
shifted_points_stay count patch end longer_end bytes more =
    let size = 12 + 6 * count in
    let rel : List Point × List ℕ → List Point × List ℕ → Type 0 = GiveSameList count size bytes more in
    let cut = EndsEarly end size bytes in
    let origin = point_in bytes in
    let behind : List ℕ = drop 12 bytes in
    Stays-long rel cut 12 end longer_end bytes more _ _ (λ few. record { is = refl; few = omega (arith, few) })
    (λ long. rw (point-append bytes more long, drop-append-le 12 bytes more long)
    (Stays-then (GiveSameList count (6 * count) behind more) (EndsEarly end (6 * count) behind) rel cut (many_at (shifted_at origin patch end) count 0 behind) (many_at (shifted_at origin patch longer_end) count 0 (behind ++ more)) (tight origin patch) (tight origin patch)
    (many_stay 6 end (shifted_at origin patch end) (shifted_at origin patch longer_end) (shifted_stays origin patch end longer_end) more count 0 behind)
    (λ e early. record { is = early.is; few = omega (arith, early.few, length-drop 12 bytes) })
    (λ x y gives. tight_stays origin patch count size bytes more cut x y (record { same = gives.same; behind = gives.behind; room = omega (arith, gives.room, length-drop 12 bytes, long); as_many = gives.as_many }))))

points_stay : (version count patch end longer_end : ℕ) (bytes more : List ℕ) → Stays (GiveSameList count (points_size version count) bytes more) (EndsEarly end (points_size version count) bytes) (points_at version count patch end bytes) (points_at version count patch longer_end (bytes ++ more))
unfolding points_at
points_stay version count patch end longer_end bytes more =
    elim (cases_Bool (eqb version 2)) [
      | inl v ↦ rw v (shifted_points_stay count patch end longer_end bytes more)
      | inr v ↦ rw v (many_stay 12 end (point_at patch end) (point_at patch longer_end) (point_stays patch end longer_end) more count 0 bytes)
    ]

-- both readings give the same value, of so many bytes
pub record SameOf {A : Type 0} (size : ℕ) (bytes : List ℕ) (x y : A) : Type 0 where
  pub same : y ≡ x
  pub room : size ≤ length bytes

body_size-points : (version : ℕ) (f : PatchField) → body_size version f ≡ points_size version f.points + 6 * f.triangles
unfolding body_size
body_size-points version f =
    elim (cases_Bool (eqb version 2)) [
      | inl v ↦ rw v refl
      | inr v ↦ rw v refl
    ]

body_stays : (version patch : ℕ) (f : PatchField) (offset : ℕ) (bytes more : List ℕ) → Stays (SameOf (body_size version f) bytes) (EndsEarly (offset + length bytes) (body_size version f) bytes) (body_in version patch f offset bytes) (body_in version patch f offset (bytes ++ more))
unfolding body_in
body_stays version patch f offset bytes more =
    let end = offset + length bytes in
    let longer_end = offset + length (bytes ++ more) in
    let points = points_size version f.points in
    let size = body_size version f in
    let is : size ≡ points + 6 * f.triangles = body_size-points version f in
    let rel : BodyLists → BodyLists → Type 0 = SameOf size bytes in
    let cut = EndsEarly end size bytes in
    Stays-then (GiveSameList f.points points bytes more) (EndsEarly end points bytes) rel cut (points_at version f.points patch end bytes) (points_at version f.points patch longer_end (bytes ++ more)) _ _
    (points_stay version f.points patch end longer_end bytes more)
    (EndsEarly-wider end points size bytes (omega (arith, is)))
    (λ x y first. rw (first.same, first.behind)
    (Stays-then (GiveSameList f.triangles (6 * f.triangles) x.1 more) (EndsEarly end (6 * f.triangles) x.1) rel cut (many_at (triangle_at x.0 patch end) f.triangles 0 x.1) (many_at (triangle_at x.0 patch longer_end) f.triangles 0 (x.1 ++ more)) _ _
    (many_stay 6 end (triangle_at x.0 patch end) (triangle_at x.0 patch longer_end) (triangle_stays x.0 patch end longer_end) more f.triangles 0 x.1)
    (λ e early. record { is = early.is; few = omega (arith, early.few, first.room, is) })
    (λ u v others. (record { points = x.0; corners = v.0 }, refl, record { same = rw others.same refl; room = omega (arith, is, first.room, others.room) }))))

-- ---- what stands before the bodies

starts-append : (bytes more : List ℕ) → 4 ≤ length bytes → starts_with nat_eq (bytes ++ more) magic ≡ starts_with nat_eq bytes magic
starts-append bytes more long = rw (take-append-le 4 bytes more long) refl

header_stays : (bytes more : List ℕ) → Stays (SameOf 16 bytes) (EndsEarly (length bytes) 16 bytes) (header_in bytes) (header_in (bytes ++ more))
unfolding header_in
header_stays bytes more =
    let rel : Header → Header → Type 0 = SameOf 16 bytes in
    let end = length bytes in
    let longer_end = length (bytes ++ more) in
    let cut = EndsEarly end 16 bytes in
    Stays-long rel cut 4 end longer_end bytes more _ _ (λ few. record { is = refl; few = omega (arith, few) }) (λ long.
    rw (starts-append bytes more long) (Stays-test rel cut (not (starts_with nat_eq bytes magic)) Magic _ _ (λ e is. cc)
    (Stays-long rel cut 6 end longer_end bytes more _ _ (λ few. record { is = refl; few = omega (arith, few) }) (λ long.
    rw (number-at 2 4 bytes more long) (Stays-test rel cut (not (is_version (number_in 2 (drop 4 bytes)))) (Version (number_in 2 (drop 4 bytes))) _ _ (λ e is. cc)
    (Stays-long rel cut 8 end longer_end bytes more _ _ (λ few. record { is = refl; few = omega (arith, few) }) (λ long.
    rw (number-at 2 6 bytes more long) (Stays-test rel cut (not (number_in 2 (drop 6 bytes) == 0)) NotZero _ _ (λ e is. cc)
    (Stays-long rel cut 12 end longer_end bytes more _ _ (λ few. record { is = refl; few = omega (arith, few) }) (λ long.
    rw (number-at 4 8 bytes more long) (Stays-test rel cut (not (is_node_count (number_in 4 (drop 8 bytes)))) (NodeCount (number_in 4 (drop 8 bytes))) _ _ (λ e is. cc)
    (Stays-long rel cut 16 end longer_end bytes more _ _ (λ few. record { is = refl; few = few }) (λ long.
    rw (number-at 4 12 bytes more long) (Stays-test rel cut (not (is_patch_count (number_in 4 (drop 12 bytes)))) (PatchCount (number_in 4 (drop 12 bytes))) _ _ (λ e is. cc)
    (record { version = number_in 2 (drop 4 bytes); nodes = number_in 4 (drop 8 bytes); patches = number_in 4 (drop 12 bytes) }, refl, record { same = refl; room = long })))))))))))))))

-- both readings give the same index, which the bytes have room for
record SameIndex (room : ℕ) (x y : IndexLists) : Type 0 where
  same : y ≡ x
  within : bodies_offset x ≤ room

fields_stay : (header : Header) (bytes more : List ℕ) → Stays (SameIndex (16 + length bytes)) (EndsEarly (16 + length bytes) (fields_size header) bytes) (fields_in header bytes) (fields_in header (bytes ++ more))
unfolding fields_in
fields_stay header bytes more =
    let end = 16 + length bytes in
    let longer_end = 16 + length (bytes ++ more) in
    let nodes = header.nodes in
    let patches = header.patches in
    let rel = SameIndex end in
    let cut = EndsEarly end (fields_size header) bytes in
    Stays-then (GiveSameList nodes (20 * nodes) bytes more) (EndsEarly end (20 * nodes) bytes) rel cut (many_at (node_at end) nodes 0 bytes) (many_at (node_at longer_end) nodes 0 (bytes ++ more)) _ _
    (many_stay 20 end (node_at end) (node_at longer_end) (node_stays end longer_end) more nodes 0 bytes)
    (EndsEarly-wider end (20 * nodes) (fields_size header) bytes (omega arith))
    (λ x y first. rw (first.same, first.behind)
    (Stays-then (GiveSameList patches (12 * patches) x.1 more) (EndsEarly end (12 * patches) x.1) rel cut (many_at (field_at nodes end) patches 0 x.1) (many_at (field_at nodes longer_end) patches 0 (x.1 ++ more)) _ _
    (many_stay 12 end (field_at nodes end) (field_at nodes longer_end) (field_stays nodes end longer_end) more patches 0 x.1)
    (λ e early. record { is = early.is; few = omega (arith, early.few, first.room) })
    (λ u v others. (record { version = header.version; nodes = x.0; fields = v.0 }, refl, record { same = rw others.same refl; within = omega (arith, first.room, others.room, first.as_many, others.as_many) }))))

index_stays : (bytes more : List ℕ) → Stays (SameIndex (length bytes)) (λ end. end ≡ length bytes) (index_in bytes) (index_in (bytes ++ more))
unfolding index_in
index_stays bytes more =
    let head : List ℕ = take 16 bytes in
    let rel = SameIndex (length bytes) in
    let cut : ℕ → Type 0 = λ end. end ≡ length bytes in
    rw (piece-append 16 bytes more)
    (Stays-then (SameOf 16 head) (EndsEarly (length head) 16 head) rel cut (header_in head) (header_in (head ++ take (16 - length head) more)) _ _
    (header_stays head (take (16 - length head) more))
    (λ e early. omega (arith, early.is, early.few, length-take 16 bytes))
    (λ x y first.
    let long : 16 ≤ length bytes = omega (arith, first.room, length-take 16 bytes) in
    let size = fields_size x in
    let piece : List ℕ = take size (drop 16 bytes) in
    rw (first.same, drop-append-le 16 bytes more long, piece-append size (drop 16 bytes) more)
    (Stays-weaker (SameIndex (16 + length piece)) (EndsEarly (16 + length piece) size piece) rel cut (fields_in x piece) (fields_in x (piece ++ take (size - length piece) more))
    (fields_stay x piece (take (size - length piece) more))
    (λ i j both. record { same = both.same; within = omega (arith, both.within, long, length-take size (drop 16 bytes), length-drop 16 bytes) })
    (λ e early. omega (arith, early.is, early.few, long, length-take size (drop 16 bytes), length-drop 16 bytes)))))

-- ---- the bodies

-- both readings give the same bodies, which the bytes have room for
record SameBodies (end : ℕ) (bytes : List ℕ) (x y : List BodyLists) : Type 0 where
  same : y ≡ x
  within : end ≤ length bytes

bodies_stay : (version patch offset : ℕ) (fs : List PatchField) (bytes more : List ℕ) → offset ≤ length bytes
    → Stays (SameBodies (offset + bodies_size version fs) bytes) (λ end. end ≡ length bytes) (bodies_in version patch offset fs bytes) (bodies_in version patch offset fs (bytes ++ more))
unfolding bodies_in bodies_size
bodies_stay version patch offset [] bytes more within = ([], refl, record { same = refl; within = omega arith })
bodies_stay version patch offset (f ∷ fs) bytes more within =
    let size = body_size version f in
    let rest : List ℕ = drop offset bytes in
    let piece : List ℕ = take size rest in
    let cut : ℕ → Type 0 = λ end. end ≡ length bytes in
    let rel = SameBodies (offset + (size + bodies_size version fs)) bytes in
    let own : Stays (SameOf size piece) (EndsEarly (offset + length piece) size piece) (body_of_file version patch f offset bytes) (body_of_file version patch f offset (bytes ++ more)) =
    rw (drop-append-le offset bytes more within, piece-append size rest more) (body_stays version patch f offset piece (take (size - length piece) more)) in
    Stays-then (SameOf size piece) (EndsEarly (offset + length piece) size piece) rel cut (body_of_file version patch f offset bytes) (body_of_file version patch f offset (bytes ++ more)) _ _ own
    (λ e early. omega (arith, early.is, early.few, within, length-take size rest, length-drop offset bytes))
    (λ x y first.
    let next : offset + size ≤ length bytes = omega (arith, first.room, within, length-take size rest, length-drop offset bytes) in
    Stays-then (SameBodies (offset + size + bodies_size version fs) bytes) cut rel cut (bodies_in version (patch + 1) (offset + size) fs bytes) (bodies_in version (patch + 1) (offset + size) fs (bytes ++ more)) _ _
    (bodies_stay version (patch + 1) (offset + size) fs bytes more next)
    (λ e is. is)
    (λ u v others. (y ∷ v, refl, record { same = rw (first.same, others.same) refl; within = omega (arith, others.within) })))

-- ---- the whole file

-- a fault that is told of bytes: where they end too early, their length; else it stays where more bytes follow
abbrev pub FaultStays : {A : Type 0} → List ℕ → FileFault → Result A FileFault → Type 0
FaultStays bytes fault longer = ((end : ℕ) → fault ≡ Truncated end → end ≡ length bytes) × (IsLasting fault → longer ≡ Err fault)

fault-then : {A C : Type 0} (rel : A → A → Type 0) (bytes : List ℕ) (r s : Result A FileFault) (f g : A → Result C FileFault) → Stays rel (λ end. end ≡ length bytes) r s
    → ((x y : A) → rel x y → (fault : FileFault) → f x ≡ Err fault → FaultStays bytes fault (g y)) → (fault : FileFault) → (r >>= f) ≡ Err fault → FaultStays bytes fault (s >>= g)
fault-then rel bytes (Ok x) s f g stays next fault e = rw stays.1 (next x stays.0 stays.2 fault e)
fault-then rel bytes (Err first) s f g stays next fault e =
    let same : first ≡ fault = cc in
    (λ end is. stays.0 end (same ∙ is), λ lasting. rw (stays.1 (λ end is. lasting end (sym same ∙ is))) e)

ends_well : (file : FileLists) (fault : FileFault) → Ok file ≡ Err fault → ⊥
ends_well file fault is = cc

end_fault : (file : FileLists) (index : IndexLists) (bytes more : List ℕ) (fault : FileFault) → (end_in index bytes >>= λ _. Ok file) ≡ Err fault → FaultStays bytes fault (end_in index (bytes ++ more) >>= λ _. Ok file)
unfolding end_in
end_fault file index bytes more fault e =
    elim (cases_Bool (leb (length bytes) (file_size index))) [
      | inl fits ↦ absurd (ends_well file fault (rw fits at e))
      | inr long ↦
          let past = leb-false (length bytes) (file_size index) long in
          let still : leb (length (bytes ++ more)) (file_size index) ≡ false = lt-leb (length (bytes ++ more)) (file_size index) (omega (arith, past, length-append bytes more)) in
          let same : Err (Trailing (file_size index + 1)) ≡ Err fault = rw long at e in
          (λ end is. absurd cc, λ lasting. rw still same)
    ]

pub file_fault : (bytes more : List ℕ) (fault : FileFault) → file_in bytes ≡ Err fault → FaultStays bytes fault (file_in (bytes ++ more))
unfolding file_in
file_fault bytes more fault e =
    fault-then (SameIndex (length bytes)) bytes (index_in bytes) (index_in (bytes ++ more)) _ _ (index_stays bytes more)
    (λ x y first. rw first.same
    (fault-then (SameBodies (bodies_offset x + bodies_size x.version x.fields) bytes) bytes (bodies_in x.version 0 (bodies_offset x) x.fields bytes) (bodies_in x.version 0 (bodies_offset x) x.fields (bytes ++ more)) _ _
    (bodies_stay x.version 0 (bodies_offset x) x.fields bytes more first.within)
    (λ u v others. rw others.same (end_fault (record { index = x; bodies = u }) x bytes more))))
    fault e
