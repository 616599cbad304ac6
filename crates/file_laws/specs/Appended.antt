-- What more bytes behind a string change of its reading: nothing but where the string ends too early.
use Rattle.std.proofs.Common.{◌≡◌, ℕ, zero, suc, ◌+◌, ◌-◌, ◌*◌, ◌<◌, ◌≤◌, Bool, true, false, not, cond, ltb, List, [], ◌∷◌, ◌++◌, length, drop, Result, Ok, Err, refl, sym, ap, subst, arith, inl, inr}
use Rattle.std.specs.Prelude.{◌≢◌}
use Rattle.std.proofs.lemmas.Bool.{cases_Bool, ltb-true, ltb-false, le-ltb}
use Rattle.std.proofs.lemmas.List.{get_or_append_left, drop-append-le, length-append, length-drop}
use Rattle.byteorder.specs.Endian.{little_from}
use Rattle.grid_vertex.specs.declared.points.Point.{Point}
use Rattle.grid_vertex.specs.Points.{is_in_grid}
use Rattle.grid_vertex.specs.Triangles.{is_flat_triangle}
use Rattle.file_model.specs.declared.fields.Node.{Node}
use Rattle.file_model.specs.declared.fields.PatchField.{PatchField}
use Rattle.file_model.specs.declared.faults.FileFault.{FileFault}
use Rattle.file_model.specs.declared.faults.FileFault.TheVariants.{Truncated, NodeOutOfGrid, ArcEnd, BodyCount, PointOutOfGrid, CornerIndex, Flat}
use Rattle.file_model.specs.Numbers.{number_in, signed_in}
use Rattle.file_model.specs.Lists.{Corners, triangle_of}
use Rattle.file_model.specs.Reading.{◌>>=◌, many_at, point_in, node_in, field_in, corners_in, shifted_in, node_at, field_at, point_at, shifted_at, triangle_at}
use Rattle.file_model.specs.Rules.{is_node, has_ends, has_counts}

-- the fault is another one than an end that comes too early
abbrev pub IsLasting : FileFault → Type 0
IsLasting fault = (end : ℕ) → fault ≢ Truncated end

-- a reading and that of the same bytes with more behind: where the first ends well, so does the other, and what they
-- give is related; a lasting fault stays; and where the bytes end too early, the fact holds of the end that is told
abbrev pub Stays : {A B : Type 0} → (A → B → Type 0) → (ℕ → Type 0) → Result A FileFault → Result B FileFault → Type 0
Stays {B = B} rel cut (Ok x) longer = (y : B) × (longer ≡ Ok y) × rel x y
Stays rel cut (Err fault) longer = ((end : ℕ) → fault ≡ Truncated end → cut end) × (IsLasting fault → longer ≡ Err fault)

-- ---- steps

pub Stays-then : {A B C D : Type 0} (rel : A → B → Type 0) (cut : ℕ → Type 0) (then_rel : C → D → Type 0) (then_cut : ℕ → Type 0) (r : Result A FileFault) (s : Result B FileFault) (f : A → Result C FileFault) (g : B → Result D FileFault)
    → Stays rel cut r s → ((end : ℕ) → cut end → then_cut end) → ((x : A) (y : B) → rel x y → Stays then_rel then_cut (f x) (g y)) → Stays then_rel then_cut (r >>= f) (s >>= g)
Stays-then rel cut then_rel then_cut (Ok x) s f g stays weaker next = rw stays.1 (next x stays.0 stays.2)
Stays-then rel cut then_rel then_cut (Err fault) s f g stays weaker next = (λ end is. weaker end (stays.0 end is), λ lasting. rw (stays.1 lasting) refl)

-- a test that the rest is long enough
pub Stays-long : {A B : Type 0} (rel : A → B → Type 0) (cut : ℕ → Type 0) (n end longer_end : ℕ) (bytes more : List ℕ) (r : Result A FileFault) (s : Result B FileFault)
    → (length bytes < n → cut end) → (n ≤ length bytes → Stays rel cut r s) → Stays rel cut (cond (ltb (length bytes) n) (Err (Truncated end)) r) (cond (ltb (length (bytes ++ more)) n) (Err (Truncated longer_end)) s)
Stays-long rel cut n end longer_end bytes more r s short long =
    elim (cases_Bool (ltb (length bytes) n)) [
      | inl few ↦ rw few (λ other is. (let same : end ≡ other = cc in subst cut same (short (ltb-true (length bytes) n few))), λ lasting. absurd (lasting end refl))
      | inr enough ↦
          let many = ltb-false (length bytes) n enough in
          let still : ltb (length (bytes ++ more)) n ≡ false = le-ltb (length (bytes ++ more)) n (omega (arith, many, length-append bytes more)) in
          rw (enough, still) (long many)
    ]

-- a test of the same value for a lasting fault
pub Stays-test : {A B : Type 0} (rel : A → B → Type 0) (cut : ℕ → Type 0) (b : Bool) (fault : FileFault) (r : Result A FileFault) (s : Result B FileFault) → IsLasting fault → Stays rel cut r s → Stays rel cut (cond b (Err fault) r) (cond b (Err fault) s)
Stays-test rel cut true fault r s lasting stays = (λ end is. absurd (lasting end is), λ _. refl)
Stays-test rel cut false fault r s lasting stays = stays

-- ---- numbers at the front

little-append : (i n : ℕ) (bytes more : List ℕ) → i + n ≤ length bytes → little_from i n (bytes ++ more) ≡ little_from i n bytes
little-append i zero bytes more within = refl
little-append i (suc n) bytes more within =
    rw (get_or_append_left bytes more 0 i (omega arith), little-append (suc i) n bytes more (omega arith)) refl

number-append : (width : ℕ) (bytes more : List ℕ) → width ≤ length bytes → number_in width (bytes ++ more) ≡ number_in width bytes
unfolding number_in
number-append width bytes more within = little-append 0 width bytes more (omega arith)

-- the number at a place
pub number-at : (width i : ℕ) (bytes more : List ℕ) → i + width ≤ length bytes → number_in width (drop i (bytes ++ more)) ≡ number_in width (drop i bytes)
number-at width i bytes more within =
    rw (drop-append-le i bytes more (omega arith)) (number-append width (drop i bytes) more (omega (arith, length-drop i bytes)))

signed-append : (bytes more : List ℕ) → 4 ≤ length bytes → signed_in (bytes ++ more) ≡ signed_in bytes
unfolding signed_in
signed-append bytes more within = rw (number-append 4 bytes more within) refl

signed-at : (i : ℕ) (bytes more : List ℕ) → i + 4 ≤ length bytes → signed_in (drop i (bytes ++ more)) ≡ signed_in (drop i bytes)
signed-at i bytes more within =
    rw (drop-append-le i bytes more (omega arith)) (signed-append (drop i bytes) more (omega (arith, length-drop i bytes)))

pub point-append : (bytes more : List ℕ) → 12 ≤ length bytes → point_in (bytes ++ more) ≡ point_in bytes
point-append bytes more long = rw (signed-append bytes more (omega arith), signed-at 4 bytes more (omega arith), signed-at 8 bytes more (omega arith)) refl

node-append : (bytes more : List ℕ) → 20 ≤ length bytes → node_in (bytes ++ more) ≡ node_in bytes
node-append bytes more long = rw (signed-append bytes more (omega arith), signed-at 4 bytes more (omega arith), signed-at 8 bytes more (omega arith), number-at 4 12 bytes more (omega arith), number-at 4 16 bytes more (omega arith)) refl

field-append : (bytes more : List ℕ) → 12 ≤ length bytes → field_in (bytes ++ more) ≡ field_in bytes
field-append bytes more long = rw (number-append 4 bytes more (omega arith), number-at 4 4 bytes more (omega arith), number-at 2 8 bytes more (omega arith), number-at 2 10 bytes more (omega arith)) refl

corners-append : (bytes more : List ℕ) → 6 ≤ length bytes → corners_in (bytes ++ more) ≡ corners_in bytes
corners-append bytes more long = rw (number-append 2 bytes more (omega arith), number-at 2 2 bytes more (omega arith), number-at 2 4 bytes more (omega arith)) refl

shifted-append : (origin : Point) (bytes more : List ℕ) → 6 ≤ length bytes → shifted_in origin (bytes ++ more) ≡ shifted_in origin bytes
shifted-append origin bytes more long = rw (number-append 2 bytes more (omega arith), number-at 2 2 bytes more (omega arith), number-at 2 4 bytes more (omega arith)) refl

-- ---- units

-- both readings give the same, with the same bytes behind and then those that follow; so many bytes were read
pub record GivesSame {A : Type 0} (size : ℕ) (bytes more : List ℕ) (x y : A × List ℕ) : Type 0 where
  pub same : y.0 ≡ x.0
  pub behind : y.1 ≡ x.1 ++ more
  pub room : length bytes ≡ size + length x.1

-- both readings give the same list of so many
pub record GiveSameList {A : Type 0} (count size : ℕ) (bytes more : List ℕ) (x y : List A × List ℕ) : Type 0 where
  pub same : y.0 ≡ x.0
  pub behind : y.1 ≡ x.1 ++ more
  pub room : length bytes ≡ size + length x.1
  pub as_many : length x.0 ≡ count

-- the end is told of bytes that are too few
pub record EndsEarly (told size : ℕ) (bytes : List ℕ) (end : ℕ) : Type 0 where
  pub is : end ≡ told
  pub few : length bytes < size

pub EndsEarly-wider : (told size wider : ℕ) (bytes : List ℕ) → size ≤ wider → (end : ℕ) → EndsEarly told size bytes end → EndsEarly told wider bytes end
EndsEarly-wider told size wider bytes le end early = record { is = early.is; few = omega (arith, early.few) }

-- units of so many bytes, in strings that end at these places
abbrev pub UnitStays : {A : Type 0} → ℕ → ℕ → (ℕ → List ℕ → Result (A × List ℕ) FileFault) → (ℕ → List ℕ → Result (A × List ℕ) FileFault) → Type 0
UnitStays size end unit longer = (more : List ℕ) (k : ℕ) (bytes : List ℕ) → Stays (GivesSame size bytes more) (EndsEarly end size bytes) (unit k bytes) (longer k (bytes ++ more))

pub many_stay : {A : Type 0} (size end : ℕ) (unit longer : ℕ → List ℕ → Result (A × List ℕ) FileFault) → UnitStays size end unit longer
    → (more : List ℕ) (n k : ℕ) (bytes : List ℕ) → Stays (GiveSameList n (size * n) bytes more) (EndsEarly end (size * n) bytes) (many_at unit n k bytes) (many_at longer n k (bytes ++ more))
unfolding many_at
many_stay {A} size end unit longer stay more zero k bytes = (([], bytes ++ more), refl, record { same = refl; behind = refl; room = omega arith; as_many = refl })
many_stay {A} size end unit longer stay more (suc n) k bytes =
    Stays-then (GivesSame size bytes more) (EndsEarly end size bytes) (GiveSameList (suc n) (size * suc n) bytes more) (EndsEarly end (size * suc n) bytes) (unit k bytes) (longer k (bytes ++ more)) _ _ (stay more k bytes)
    (EndsEarly-wider end size (size * suc n) bytes (omega arith))
    (λ x y first. Stays-then (GiveSameList n (size * n) x.1 more) (EndsEarly end (size * n) x.1) (GiveSameList (suc n) (size * suc n) bytes more) (EndsEarly end (size * suc n) bytes) (many_at unit n (k + 1) x.1) (many_at longer n (k + 1) y.1) _ _
    (rw first.behind (many_stay size end unit longer stay more n (k + 1) x.1))
    (λ e early. record { is = early.is; few = omega (arith, early.few, first.room) })
    (λ u v others. ((y.0 ∷ v.0, v.1), refl, record { same = rw (first.same, others.same) refl; behind = others.behind; room = omega (arith, first.room, others.room); as_many = ap suc others.as_many })))

-- a unit that was read at the front
unit_read : {A : Type 0} (size : ℕ) (bytes more : List ℕ) (a : A) → size ≤ length bytes → GivesSame size bytes more (a, drop size bytes) (a, drop size (bytes ++ more))
unit_read size bytes more a long = record { same = refl; behind = drop-append-le size bytes more long; room = omega (arith, length-drop size bytes) }

-- the tests of a unit of each kind that is long enough
abbrev after_node : ℕ → Node → List ℕ → Result (Node × List ℕ) FileFault
after_node v n rest = cond (not (is_node n)) (Err (NodeOutOfGrid v)) (Ok (n, rest))

abbrev after_field : ℕ → ℕ → PatchField → List ℕ → Result (PatchField × List ℕ) FileFault
after_field nodes p f rest = cond (not (has_ends nodes f)) (Err (ArcEnd p)) (cond (not (has_counts f)) (Err (BodyCount p)) (Ok (f, rest)))

abbrev after_point : ℕ → ℕ → Point → List ℕ → Result (Point × List ℕ) FileFault
after_point patch k p rest = cond (not (is_in_grid p)) (Err (PointOutOfGrid patch k)) (Ok (p, rest))

abbrev after_corners : List Point → ℕ → ℕ → Corners → List ℕ → Result (Corners × List ℕ) FileFault
after_corners points patch k t rest =
    cond (not (ltb t.a (length points))) (Err (CornerIndex patch k t.a))
    (cond (not (ltb t.b (length points))) (Err (CornerIndex patch k t.b))
    (cond (not (ltb t.c (length points))) (Err (CornerIndex patch k t.c))
    (cond (is_flat_triangle (triangle_of points t)) (Err (Flat patch k)) (Ok (t, rest)))))

pub node_stays : (end longer_end : ℕ) → UnitStays 20 end (node_at end) (node_at longer_end)
unfolding node_at
node_stays end longer_end more v bytes =
    let rel : Node × List ℕ → Node × List ℕ → Type 0 = GivesSame 20 bytes more in
    let cut = EndsEarly end 20 bytes in
    let n = node_in bytes in
    Stays-long rel cut 20 end longer_end bytes more _ _ (λ few. record { is = refl; few = few })
    (λ long. subst (λ (m : Node). Stays rel cut (after_node v n (drop 20 bytes)) (after_node v m (drop 20 (bytes ++ more)))) (sym (node-append bytes more long))
    (Stays-test rel cut (not (is_node n)) (NodeOutOfGrid v) _ _ (λ e is. cc)
    ((n, drop 20 (bytes ++ more)), refl, unit_read 20 bytes more n long)))

pub field_stays : (nodes end longer_end : ℕ) → UnitStays 12 end (field_at nodes end) (field_at nodes longer_end)
unfolding field_at
field_stays nodes end longer_end more p bytes =
    let rel : PatchField × List ℕ → PatchField × List ℕ → Type 0 = GivesSame 12 bytes more in
    let cut = EndsEarly end 12 bytes in
    let f = field_in bytes in
    Stays-long rel cut 12 end longer_end bytes more _ _ (λ few. record { is = refl; few = few })
    (λ long. subst (λ (g : PatchField). Stays rel cut (after_field nodes p f (drop 12 bytes)) (after_field nodes p g (drop 12 (bytes ++ more)))) (sym (field-append bytes more long))
    (Stays-test rel cut (not (has_ends nodes f)) (ArcEnd p) _ _ (λ e is. cc)
    (Stays-test rel cut (not (has_counts f)) (BodyCount p) _ _ (λ e is. cc)
    ((f, drop 12 (bytes ++ more)), refl, unit_read 12 bytes more f long))))

pub point_stays : (patch end longer_end : ℕ) → UnitStays 12 end (point_at patch end) (point_at patch longer_end)
unfolding point_at
point_stays patch end longer_end more k bytes =
    let rel : Point × List ℕ → Point × List ℕ → Type 0 = GivesSame 12 bytes more in
    let cut = EndsEarly end 12 bytes in
    let p = point_in bytes in
    Stays-long rel cut 12 end longer_end bytes more _ _ (λ few. record { is = refl; few = few })
    (λ long. subst (λ (q : Point). Stays rel cut (after_point patch k p (drop 12 bytes)) (after_point patch k q (drop 12 (bytes ++ more)))) (sym (point-append bytes more long))
    (Stays-test rel cut (not (is_in_grid p)) (PointOutOfGrid patch k) _ _ (λ e is. cc)
    ((p, drop 12 (bytes ++ more)), refl, unit_read 12 bytes more p long)))

pub shifted_stays : (origin : Point) (patch end longer_end : ℕ) → UnitStays 6 end (shifted_at origin patch end) (shifted_at origin patch longer_end)
unfolding shifted_at
shifted_stays origin patch end longer_end more k bytes =
    let rel : Point × List ℕ → Point × List ℕ → Type 0 = GivesSame 6 bytes more in
    let cut = EndsEarly end 6 bytes in
    let p = shifted_in origin bytes in
    Stays-long rel cut 6 end longer_end bytes more _ _ (λ few. record { is = refl; few = few })
    (λ long. subst (λ (q : Point). Stays rel cut (after_point patch k p (drop 6 bytes)) (after_point patch k q (drop 6 (bytes ++ more)))) (sym (shifted-append origin bytes more long))
    (Stays-test rel cut (not (is_in_grid p)) (PointOutOfGrid patch k) _ _ (λ e is. cc)
    ((p, drop 6 (bytes ++ more)), refl, unit_read 6 bytes more p long)))

pub triangle_stays : (points : List Point) (patch end longer_end : ℕ) → UnitStays 6 end (triangle_at points patch end) (triangle_at points patch longer_end)
unfolding triangle_at
triangle_stays points patch end longer_end more k bytes =
    let rel : Corners × List ℕ → Corners × List ℕ → Type 0 = GivesSame 6 bytes more in
    let cut = EndsEarly end 6 bytes in
    let t = corners_in bytes in
    let n = length points in
    Stays-long rel cut 6 end longer_end bytes more _ _ (λ few. record { is = refl; few = few })
    (λ long. subst (λ (u : Corners). Stays rel cut (after_corners points patch k t (drop 6 bytes)) (after_corners points patch k u (drop 6 (bytes ++ more)))) (sym (corners-append bytes more long))
    (Stays-test rel cut (not (ltb t.a n)) (CornerIndex patch k t.a) _ _ (λ e is. cc)
    (Stays-test rel cut (not (ltb t.b n)) (CornerIndex patch k t.b) _ _ (λ e is. cc)
    (Stays-test rel cut (not (ltb t.c n)) (CornerIndex patch k t.c) _ _ (λ e is. cc)
    (Stays-test rel cut (is_flat_triangle (triangle_of points t)) (Flat patch k) _ _ (λ e is. cc)
    ((t, drop 6 (bytes ++ more)), refl, unit_read 6 bytes more t long))))))
