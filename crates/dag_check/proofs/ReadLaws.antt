-- Bodies that are read one after the other, each of which is added to a check.
use Rattle.std.proofs.Common.{◌≡◌, ℕ, zero, suc, ◌+◌, ◌<◌, ◌≤◌, List, [], ◌∷◌, ◌++◌, length, take, drop, get_or, Option, Some, None, Result, Ok, Err, refl, sym, ap, ◌∙◌, subst, append_assoc, length-append, arith}
use Rattle.std.proofs.lemmas.List.{drop_more, drop_all}
use Rattle.std.proofs.lemmas.Option.{slice_get_within, slice_get-get_or, get_or_from_slice_get}
use Rattle.std.specs.Prelude.{slice_get, IfSome}
use Rattle.file_model.specs.declared.faults.FileFault.{FileFault}
use Rattle.file_model.specs.declared.fields.PatchField.{PatchField}
use Rattle.file_model.specs.declared.refusals.ReadRefusal.{ReadRefusal}
use Rattle.file_model.specs.declared.refusals.ReadRefusal.TheVariants as reads
use Rattle.file_model.specs.Answers.{Refuses}
use Rattle.file_model.specs.Lists.{BodyLists, IndexLists, body_size, bodies_size, bodies_offset}
use Rattle.file_model.specs.Reading.{◌>>=◌, body_of_file, bodies_in, body_offset}
use Rattle.view_outside.specs.Taken.{taken_after, RisesBelow, RisesAtMost, taken_after-taken_after}
use Rattle.dag_check.specs.Checkers.{CheckerSeen, Follows}
use Rattle.dag_check.specs.Checks.{bodies_behind, FollowsBodies}

-- what is read from a patch on
abbrev bodies_from : IndexLists → ℕ → List ℕ → Result (List BodyLists) FileFault
bodies_from index patch bytes = bodies_in index.version patch (body_offset index patch) (drop patch index.fields) bytes

-- the bodies before a patch were read and are followed, and what is read from it on stands behind them
pub record HasRead (index : IndexLists) (patch : ℕ) (checker : CheckerSeen) (bytes : List ℕ) : Type 0 where
  pub front : List BodyLists
  pub count : length front ≡ patch
  pub follows : (rest : List BodyLists) → Follows checker (front ++ rest)
  pub others : bodies_behind index bytes ≡ (bodies_from index patch bytes >>= λ rest. Ok (front ++ rest))

-- a check that follows bodies still does so with this body at the patch's place
abbrev pub Adds : ℕ → BodyLists → CheckerSeen → CheckerSeen → Type 0
Adds patch body before after = (bodies : List BodyLists) → Follows before bodies → slice_get bodies patch ≡ Some body → Follows after bodies

-- the field of a patch that is there
field_at : (fields : List PatchField) (patch : ℕ) → patch < length fields → (f : PatchField) × (slice_get fields patch ≡ Some f)
field_at fields patch lt =
    let none_there : PatchField = record { tail = 0; head = 0; points = 0; triangles = 0 } in
    (get_or fields patch none_there, slice_get-get_or fields patch none_there lt)

drop_at : {A : Type 0} → (xs : List A) (i : ℕ) (x : A) → slice_get xs i ≡ Some x → drop i xs ≡ x ∷ drop (i + 1) xs
drop_at xs i x is = drop_more xs i x (slice_get_within xs i x is) ∙ ap (λ (y : _). y ∷ drop (i + 1) xs) (get_or_from_slice_get xs i x x is)

get_behind : {A : Type 0} → (front rest : List A) (x : A) → slice_get (front ++ x ∷ rest) (length front) ≡ Some x
get_behind [] rest x = refl
get_behind (y ∷ ys) rest x = get_behind ys rest x

-- one body more before a place
bodies_size-more : (version : ℕ) (fs : List PatchField) (i : ℕ) (f : PatchField) → slice_get fs i ≡ Some f → bodies_size version (take (i + 1) fs) ≡ bodies_size version (take i fs) + body_size version f
unfolding bodies_size
bodies_size-more version [] i f is = absurd cc
bodies_size-more version (g ∷ gs) zero f is = let same : g ≡ f = cc in rw same (omega arith)
bodies_size-more version (g ∷ gs) (suc i) f is =
    let next : suc i + 1 ≡ suc (i + 1) = omega arith in
    rw next (omega (arith, bodies_size-more version gs i f is))

then_none : (read : Result (List BodyLists) FileFault) → read ≡ (read >>= λ rest. Ok ([] ++ rest))
then_none (Ok bodies) = refl
then_none (Err fault) = refl

then_one : (front : List BodyLists) (body : BodyLists) (read : Result (List BodyLists) FileFault)
    → ((read >>= λ others. Ok (body ∷ others)) >>= λ rest. Ok (front ++ rest)) ≡ (read >>= λ rest. Ok ((front ++ body ∷ []) ++ rest))
then_one front body (Ok others) = ap (λ (bs : List BodyLists). Ok bs) (sym (append_assoc front (body ∷ []) others))
then_one front body (Err fault) = refl

-- a body that is read stands before the others
from_next : (index : IndexLists) (patch : ℕ) (f : PatchField) (body : BodyLists) (bytes : List ℕ) → slice_get index.fields patch ≡ Some f → body_of_file index.version patch f (body_offset index patch) bytes ≡ Ok body
    → bodies_from index patch bytes ≡ (bodies_from index (patch + 1) bytes >>= λ others. Ok (body ∷ others))
unfolding bodies_in
from_next index patch f body bytes is read =
    let next : body_offset index patch + body_size index.version f ≡ body_offset index (patch + 1) = omega (arith, bodies_size-more index.version index.fields patch f is) in
    rw (drop_at index.fields patch f is, read, next) refl

from_fault : (index : IndexLists) (patch : ℕ) (f : PatchField) (fault : FileFault) (bytes : List ℕ) → slice_get index.fields patch ≡ Some f → body_of_file index.version patch f (body_offset index patch) bytes ≡ Err fault
    → bodies_from index patch bytes ≡ Err fault
unfolding bodies_in
from_fault index patch f fault bytes is read = rw (drop_at index.fields patch f is, read) refl

from_end : (index : IndexLists) (patch : ℕ) (bytes : List ℕ) → length index.fields ≤ patch → bodies_from index patch bytes ≡ Ok []
unfolding bodies_in
from_end index patch bytes past = rw (drop_all patch index.fields past) refl

starts : (index : IndexLists) (checker : CheckerSeen) (bytes : List ℕ) → ((bodies : List BodyLists) → Follows checker bodies) → HasRead index 0 checker bytes
unfolding bodies_size
starts index checker bytes follows =
    let here : body_offset index 0 ≡ bodies_offset index = omega arith in
    record {
      front = [];
      count = refl;
      follows = follows;
      others = rw here (then_none (bodies_behind index bytes));
    }

-- before the first body
pub read-none : (told : Option (List ℕ)) (index : IndexLists) (checker : CheckerSeen) → ((bodies : List BodyLists) → Follows checker bodies) → IfSome told (HasRead index 0 checker)
read-none None index checker follows = tt
read-none (Some bytes) index checker follows = starts index checker bytes follows

goes_on : (index : IndexLists) (patch : ℕ) (f : PatchField) (body : BodyLists) (before after : CheckerSeen) (bytes : List ℕ) → slice_get index.fields patch ≡ Some f → body_of_file index.version patch f (body_offset index patch) bytes ≡ Ok body
    → Adds patch body before after → HasRead index patch before bytes → HasRead index (patch + 1) after bytes
goes_on index patch f body before after bytes is read adds has =
    let front = has.front in
    record {
      front = front ++ body ∷ [];
      count = omega (arith, length-append front (body ∷ []), has.count);
      follows = λ rest. subst (λ (bs : List BodyLists). Follows after bs) (sym (append_assoc front (body ∷ []) rest))
          (adds (front ++ body ∷ rest) (has.follows (body ∷ rest)) (ap (λ (k : ℕ). slice_get (front ++ body ∷ rest) k) (sym has.count) ∙ get_behind front rest body));
      others = has.others
          ∙ ap (λ (read : Result (List BodyLists) FileFault). read >>= λ rest. Ok (front ++ rest)) (from_next index patch f body bytes is read)
          ∙ then_one front body (bodies_from index (patch + 1) bytes);
    }

-- a body more, which was read and added
pub read-more : (told : Option (List ℕ)) (index : IndexLists) (patch : ℕ) (body : BodyLists) (before after : CheckerSeen) → patch < length index.fields
    → IfSome told (λ bytes. IfSome (slice_get index.fields patch) (λ field. body_of_file index.version patch field (body_offset index patch) bytes ≡ Ok body))
    → Adds patch body before after → IfSome told (HasRead index patch before) → IfSome told (HasRead index (patch + 1) after)
read-more None index patch body before after lt read adds has = tt
read-more (Some bytes) index patch body before after lt read adds has =
    let field = field_at index.fields patch lt in
    goes_on index patch field.0 body before after bytes field.1 (rw field.1 at read) adds has

stops : (index : IndexLists) (patch : ℕ) (f : PatchField) (checker : CheckerSeen) (bytes : List ℕ) (refusal : ReadRefusal) → slice_get index.fields patch ≡ Some f → Refuses refusal (body_of_file index.version patch f (body_offset index patch) bytes)
    → HasRead index patch checker bytes → Refuses refusal (bodies_behind index bytes)
stops index patch f checker bytes (reads.File fault) is read has = has.others ∙ rw (from_fault index patch f fault bytes is read) refl
stops index patch f checker bytes reads.ReadFault is read has = tt
stops index patch f checker bytes reads.Memory is read has = tt

-- a body that is refused
pub read-refused : (told : Option (List ℕ)) (index : IndexLists) (patch : ℕ) (checker : CheckerSeen) (refusal : ReadRefusal) → patch < length index.fields
    → IfSome told (λ bytes. IfSome (slice_get index.fields patch) (λ field. Refuses refusal (body_of_file index.version patch field (body_offset index patch) bytes)))
    → IfSome told (HasRead index patch checker) → IfSome told (λ bytes. Refuses refusal (bodies_behind index bytes))
read-refused None index patch checker refusal lt read has = tt
read-refused (Some bytes) index patch checker refusal lt read has =
    let field = field_at index.fields patch lt in
    stops index patch field.0 checker bytes refusal field.1 (rw field.1 at read) has

-- behind the last body
pub read-all : (told : Option (List ℕ)) (index : IndexLists) (patch : ℕ) (checker : CheckerSeen) → length index.fields ≤ patch → IfSome told (HasRead index patch checker) → IfSome told (λ bytes. FollowsBodies (Ok checker) (bodies_behind index bytes))
read-all None index patch checker past has = tt
read-all (Some bytes) index patch checker past has =
    (has.front ++ [], has.others ∙ rw (from_end index patch bytes past) refl, has.follows [])

-- so many bytes were taken for the bodies before a patch
abbrev pub HasTaken : IndexLists → ℕ → ℕ → ℕ → Type 0
HasTaken index patch before now = now ≡ taken_after before (bodies_size index.version (take patch index.fields))

pub taken-none : (index : IndexLists) (before : ℕ) → HasTaken index 0 before before
unfolding bodies_size
taken-none index before = omega arith

pub taken-more : (index : IndexLists) (patch before between now size : ℕ) → patch < length index.fields → IfSome (slice_get index.fields patch) (λ field. size ≡ body_size index.version field)
    → HasTaken index patch before between → now ≡ taken_after between size → HasTaken index (patch + 1) before now
taken-more index patch before between now size lt sized so_far takes =
    let field = field_at index.fields patch lt in
    let is : size ≡ body_size index.version field.0 = rw field.1 at sized in
    omega (arith, is, so_far, takes, bodies_size-more index.version index.fields patch field.0 field.1)

-- the bodies up to a patch and its own are no more than all
bodies_size-upto : (version : ℕ) (fs : List PatchField) (i : ℕ) (f : PatchField) → slice_get fs i ≡ Some f → bodies_size version (take i fs) + body_size version f ≤ bodies_size version fs
unfolding bodies_size
bodies_size-upto version [] i f is = absurd cc
bodies_size-upto version (g ∷ gs) zero f is = let same : g ≡ f = cc in rw same (omega arith)
bodies_size-upto version (g ∷ gs) (suc i) f is = omega (arith, bodies_size-upto version gs i f is)

-- the store failed in a body
pub taken-cut : (index : IndexLists) (patch before between now : ℕ) → patch < length index.fields → HasTaken index patch before between
    → IfSome (slice_get index.fields patch) (λ field. RisesBelow between now (body_size index.version field)) → RisesAtMost before now (bodies_size index.version index.fields)
taken-cut index patch before between now lt so_far cut =
    let field = field_at index.fields patch lt in
    let rises : RisesBelow between now (body_size index.version field.0) = rw field.1 at cut in
    let front = bodies_size index.version (take patch index.fields) in
    record {
      bytes = front + rises.bytes;
      below = omega (arith, rises.below, bodies_size-upto index.version index.fields patch field.0 field.1);
      sum = rises.sum ∙ ap (λ (t : ℕ). taken_after t rises.bytes) so_far ∙ taken_after-taken_after before front rises.bytes;
    }
