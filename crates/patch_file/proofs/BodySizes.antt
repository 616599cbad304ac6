-- The sizes of bodies one after the other.
use Rattle.std.proofs.Common.{◌≡◌, ℕ, ◌+◌, ◌<◌, ◌≤◌, List, [], ◌∷◌, ◌++◌, length, get_or, take, drop, refl, sym, ap, ◌∙◌, arith, inl, inr}
use Rattle.std.proofs.lemmas.Bool.{cases_lt}
use Rattle.std.proofs.lemmas.List.{take_more, take-take, take-append-drop, length-take, length_push, get_or_append_left, get_or_push}
use Rattle.file_model.specs.declared.fields.PatchField.{PatchField}
use Rattle.file_model.specs.Lists.{body_size, bodies_size}
use Rattle.patch_file.specs.Offsets.{HasOffsets}

pub bodies_size-append : (version : ℕ) (fs gs : List PatchField) → bodies_size version (fs ++ gs) ≡ bodies_size version fs + bodies_size version gs
unfolding bodies_size
bodies_size-append version [] gs = omega arith
bodies_size-append version (f ∷ fs) gs = omega (arith, bodies_size-append version fs gs)

pub bodies_size-nil : (version : ℕ) → bodies_size version [] ≡ 0
unfolding bodies_size
bodies_size-nil version = refl

pub bodies_size-cons : (version : ℕ) (f : PatchField) (fs : List PatchField) → bodies_size version (f ∷ fs) ≡ body_size version f + bodies_size version fs
unfolding bodies_size
bodies_size-cons version f fs = refl

-- one body more
pub end_more : (version start : ℕ) (fields : List PatchField) (i end size : ℕ) (d : PatchField) → i < length fields → size ≡ body_size version (get_or fields i d) → end ≡ start + bodies_size version (take i fields) → end + size ≡ start + bodies_size version (take (i + 1) fields)
end_more version start fields i end size d lt sized so_far =
    let field = get_or fields i d in
    let whole = ap (bodies_size version) (take_more fields i d lt) ∙ bodies_size-append version (take i fields) (field ∷ []) in
    omega (arith, whole, bodies_size-cons version field [], bodies_size-nil version)

pub HasOffsets-none : (version start : ℕ) → HasOffsets version start [] []
HasOffsets-none version start = record { count = refl; each = λ patch lt. absurd (omega arith) }

pub HasOffsets-more : (version start : ℕ) (fields : List PatchField) (i end : ℕ) (offsets : List ℕ) → i < length fields → end ≡ start + bodies_size version (take i fields) → HasOffsets version start (take i fields) offsets → HasOffsets version start (take (i + 1) fields) (offsets ++ end ∷ [])
HasOffsets-more version start fields i end offsets lt ends so_far =
    let front = length-take i fields in
    let longer = length-take (i + 1) fields in
    record {
      count = omega (arith, length_push offsets end, so_far.count, front, longer);
      each = λ patch below.
          let first : take patch (take (i + 1) fields) ≡ take patch fields = take-take patch (i + 1) fields (omega (arith, longer)) in
          elim (cases_lt patch i) [
            | inl before ↦ get_or_append_left offsets (end ∷ []) 0 patch (omega (arith, so_far.count, front)) ∙ so_far.each patch (omega (arith, front)) ∙ ap (λ fs. start + bodies_size version fs) (take-take patch i fields (omega arith) ∙ sym first)
            | inr not_before ↦
                let here : patch ≡ i = omega (arith, longer) in
                get_or_push offsets end 0 patch (omega (arith, so_far.count, front)) ∙ ends ∙ ap (λ fs. start + bodies_size version fs) (ap (λ k. take k fields) (sym here) ∙ sym first)
          ];
    }

-- the body of a field ends where the next begins, and before the end of all
pub body_within : (version : ℕ) (fields : List PatchField) (i : ℕ) (d : PatchField) → i < length fields → bodies_size version (take i fields) + body_size version (get_or fields i d) ≤ bodies_size version fields
body_within version fields i d lt =
    let split = ap (bodies_size version) (take-append-drop (i + 1) fields) in
    let parts = bodies_size-append version (take (i + 1) fields) (drop (i + 1) fields) in
    let more = end_more version 0 fields i (bodies_size version (take i fields)) (body_size version (get_or fields i d)) d lt refl (omega arith) in
    omega (arith, split, parts, more)
