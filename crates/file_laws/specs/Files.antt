-- A patch file that is read is spelled so and keeps its rules, and a patch file that is spelled is read.
use Rattle.std.proofs.Common.{◌≡◌, ℕ, ◌+◌, ◌≤◌, ◌&&◌, leb, List, [], ◌∷◌, ◌++◌, length, take, drop, Ok, refl, sym, ap, subst, ◌∙◌, append_assoc, arith}
use Rattle.std.specs.Prelude.{IsTrue}
use Rattle.std.specs.List.{flat_map, list_all}
use Rattle.std.proofs.lemmas.Bool.{and_parts, and_from, false≢true, leb-true, le-leb}
use Rattle.std.proofs.lemmas.List.{append-nil, drop_at, drop-drop, length-append, length-take, take_at, take-append-drop}
use Rattle.file_model.specs.declared.fields.PatchField.{PatchField}
use Rattle.file_model.specs.declared.faults.FileFault.TheVariants.{Trailing}
use Rattle.file_model.specs.Lists.{BodyLists, IndexLists, FileLists, body_size, bodies_size, bodies_offset}
use Rattle.file_model.specs.Spelling.{body_text, index_text, file_text}
use Rattle.file_model.specs.Reading.{◌>>=◌, index_in, body_in, body_of_file, bodies_in, file_size, end_in, file_in}
use Rattle.file_model.specs.Rules.{is_between, is_body, fits_field, has_ends, has_counts, is_field, are_bodies, IsPatchFile}
use Rattle.file_laws.specs.Numbers.{IsBytes, IsBytes-drop, IsBytes-take}
use Rattle.file_laws.specs.Units.{both}
use Rattle.file_laws.specs.Steps.{step_ok, last_ok, ok_is, front_is_all, all_weaken}
use Rattle.file_laws.specs.Bodies.{length-body_text, body_text-in, body_in-text}
use Rattle.file_laws.specs.Indexes.{between_most, length-index_text, index_text-in, index_in-text}

-- ---- bodies one after the other

-- the rules of the first body and of the others
pub record AreBodies (version : ℕ) (f : PatchField) (fs : List PatchField) (b : BodyLists) (bs : List BodyLists) : Type 0 where
  pub fits : IsTrue (fits_field f b)
  pub body : IsTrue (is_body version b)
  pub others : IsTrue (are_bodies version fs bs)

pub are_bodies-parts : (version : ℕ) (f : PatchField) (fs : List PatchField) (b : BodyLists) (bs : List BodyLists) → IsTrue (are_bodies version (f ∷ fs) (b ∷ bs)) → AreBodies version f fs b bs
unfolding are_bodies
are_bodies-parts version f fs b bs h =
    let outer = and_parts (fits_field f b && is_body version b) (are_bodies version fs bs) h in
    let inner = and_parts (fits_field f b) (is_body version b) outer.0 in
    record { fits = inner.0; body = inner.1; others = outer.1 }

pub are_bodies-from : (version : ℕ) (f : PatchField) (fs : List PatchField) (b : BodyLists) (bs : List BodyLists) → AreBodies version f fs b bs → IsTrue (are_bodies version (f ∷ fs) (b ∷ bs))
unfolding are_bodies
are_bodies-from version f fs b bs h =
    and_from (fits_field f b && is_body version b) (are_bodies version fs bs) (and_from (fits_field f b) (is_body version b) h.fits h.body) h.others

pub length-bodies_text : (version : ℕ) (fs : List PatchField) (bs : List BodyLists) → IsTrue (are_bodies version fs bs) → length (flat_map (body_text version) bs) ≡ bodies_size version fs
unfolding bodies_size are_bodies
length-bodies_text version [] [] h = refl
length-bodies_text version [] (b ∷ bs) h = absurd (false≢true h)
length-bodies_text version (f ∷ fs) [] h = absurd (false≢true h)
length-bodies_text version (f ∷ fs) (b ∷ bs) h =
    let parts = are_bodies-parts version f fs b bs h in
    length-append (body_text version b) (flat_map (body_text version) bs) ∙ omega (arith, length-body_text version f b parts.fits, length-bodies_text version fs bs parts.others)

-- what bodies that were read are
pub record AreReadBodies (version offset : ℕ) (fs : List PatchField) (bytes : List ℕ) (bs : List BodyLists) : Type 0 where
  pub text : drop offset bytes ≡ flat_map (body_text version) bs ++ drop (offset + bodies_size version fs) bytes
  pub rules : IsTrue (are_bodies version fs bs)

pub bodies_text-in : (version patch offset : ℕ) (fs : List PatchField) (bytes : List ℕ) (bs : List BodyLists) → IsBytes bytes → bodies_in version patch offset fs bytes ≡ Ok bs → AreReadBodies version offset fs bytes bs
unfolding bodies_in bodies_size are_bodies
bodies_text-in version patch offset [] bytes bs fits e =
    let nothing : List BodyLists = [] in
    subst (AreReadBodies version offset [] bytes) (ok_is nothing bs e) (record { text = ap (λ (n : ℕ). drop n bytes) (omega arith); rules = refl })
bodies_text-in version patch offset (f ∷ fs) bytes bs fits e =
    let size = body_size version f in
    let a = step_ok (body_of_file version patch f offset bytes) (λ first. bodies_in version (patch + 1) (offset + size) fs bytes >>= λ others. Ok (first ∷ others)) bs e in
    let b = step_ok (bodies_in version (patch + 1) (offset + size) fs bytes) (λ others. Ok (a.0 ∷ others)) bs a.2 in
    let own : List ℕ = take size (drop offset bytes) in
    let first = body_text-in version patch f offset own a.0 (IsBytes-take size (drop offset bytes) (IsBytes-drop offset bytes fits)) (omega (arith, length-take size (drop offset bytes))) a.1 in
    let others = bodies_text-in version (patch + 1) (offset + size) fs bytes b.0 fits b.1 in
    let behind : drop size (drop offset bytes) ≡ flat_map (body_text version) b.0 ++ drop (offset + size + bodies_size version fs) bytes = drop-drop size offset bytes ∙ others.text in
    let end : offset + size + bodies_size version fs ≡ offset + (size + bodies_size version fs) = omega arith in
    let whole : drop offset bytes ≡ body_text version a.0 ++ (flat_map (body_text version) b.0 ++ drop (offset + (size + bodies_size version fs)) bytes) = sym (take-append-drop size (drop offset bytes)) ∙ both first.text (behind ∙ ap (λ (n : ℕ). flat_map (body_text version) b.0 ++ drop n bytes) end) in
    subst (AreReadBodies version offset (f ∷ fs) bytes) (ok_is (a.0 ∷ b.0) bs b.2) (record {
      text = whole ∙ sym (append_assoc (body_text version a.0) (flat_map (body_text version) b.0) (drop (offset + (size + bodies_size version fs)) bytes));
      rules = are_bodies-from version f fs a.0 b.0 (record { fits = first.fits; body = first.rules; others = others.rules });
    })

pub bodies_in-text : (version patch offset : ℕ) (fs : List PatchField) (bytes rest : List ℕ) (bs : List BodyLists) → IsTrue (list_all has_counts fs) → IsTrue (are_bodies version fs bs)
    → drop offset bytes ≡ flat_map (body_text version) bs ++ rest → bodies_in version patch offset fs bytes ≡ Ok bs
unfolding bodies_in are_bodies
bodies_in-text version patch offset [] bytes rest [] counts h e = refl
bodies_in-text version patch offset [] bytes rest (b ∷ bs) counts h e = absurd (false≢true h)
bodies_in-text version patch offset (f ∷ fs) bytes rest [] counts h e = absurd (false≢true h)
bodies_in-text version patch offset (f ∷ fs) bytes rest (b ∷ bs) counts h e =
    let size = body_size version f in
    let parts = are_bodies-parts version f fs b bs h in
    let each = and_parts (has_counts f) (list_all has_counts fs) counts in
    let own = (and_parts (is_between 1 65535 f.points) (is_between 1 65535 f.triangles) each.0).0 in
    let some_point : 1 ≤ f.points = leb-true 1 f.points (and_parts (leb 1 f.points) (leb f.points 65535) own).0 in
    let few = between_most 1 65535 f.points own in
    let behind : List ℕ = flat_map (body_text version) bs ++ rest in
    let here : drop offset bytes ≡ body_text version b ++ behind = e ∙ append_assoc (body_text version b) (flat_map (body_text version) bs) rest in
    let len = length-body_text version f b parts.fits in
    let taken : take size (drop offset bytes) ≡ body_text version b = ap (take size) here ∙ take_at (body_text version b) behind size len in
    let next : drop (offset + size) bytes ≡ behind = sym (drop-drop size offset bytes) ∙ ap (drop size) here ∙ drop_at (body_text version b) behind size len in
    let first : body_in version patch f offset (take size (drop offset bytes)) ≡ Ok b = ap (body_in version patch f offset) taken ∙ body_in-text version patch f offset b parts.body parts.fits some_point (omega arith) in
    rw (first, bodies_in-text version (patch + 1) (offset + size) fs bytes rest bs each.1 parts.others next) refl

-- ---- whole files

pub length-file_text : (file : FileLists) → IsTrue (are_bodies file.index.version file.index.fields file.bodies) → length (file_text file) ≡ file_size file.index
unfolding file_text
length-file_text file h =
    length-append (index_text file.index) (flat_map (body_text file.index.version) file.bodies)
    ∙ omega (arith, length-index_text file.index, length-bodies_text file.index.version file.index.fields file.bodies h)

end_ok : (index : IndexLists) (bytes : List ℕ) (x : Unit {0}) → end_in index bytes ≡ Ok x → length bytes ≤ file_size index
unfolding end_in
end_ok index bytes x e = leb-true (length bytes) (file_size index) (last_ok (leb (length bytes) (file_size index)) (Trailing (file_size index + 1)) tt x e)

end_again : (index : IndexLists) (bytes : List ℕ) → length bytes ≤ file_size index → end_in index bytes ≡ Ok tt
unfolding end_in
end_again index bytes h = rw (le-leb (length bytes) (file_size index) h) refl

-- a front, and what is found behind it
joined : (bytes front behind rest : List ℕ) (n : ℕ) → bytes ≡ front ++ drop n bytes → drop n bytes ≡ behind ++ rest → bytes ≡ (front ++ behind) ++ rest
joined bytes front behind rest n p q = p ∙ ap (λ (t : List ℕ). front ++ t) q ∙ sym (append_assoc front behind rest)

-- found: a file that is read is spelled so, and is one
pub file_text-in : (file : FileLists) (bytes : List ℕ) → IsBytes bytes → file_in bytes ≡ Ok file → IsPatchFile file bytes
unfolding file_in file_text
file_text-in file bytes fits e =
    let a = step_ok (index_in bytes) (λ index. bodies_in index.version 0 (bodies_offset index) index.fields bytes >>= λ bodies. end_in index bytes >>= λ _. Ok (record { index = index; bodies = bodies })) file e in
    let index = a.0 in
    let offset = bodies_offset index in
    let b = step_ok (bodies_in index.version 0 offset index.fields bytes) (λ bodies. end_in index bytes >>= λ _. Ok (record { index = index; bodies = bodies })) file a.2 in
    let c = step_ok (end_in index bytes) (λ _. Ok (record { index = index; bodies = b.0 })) file b.2 in
    let made : FileLists = record { index = index; bodies = b.0 } in
    let front = index_text-in bytes index fits a.1 in
    let behind = bodies_text-in index.version 0 offset index.fields bytes b.0 fits b.1 in
    let rest : List ℕ = drop (offset + bodies_size index.version index.fields) bytes in
    let whole : bytes ≡ file_text made ++ rest = joined bytes (index_text index) (flat_map (body_text index.version) b.0) rest offset front.text behind.text in
    let text = front_is_all bytes (file_text made) rest whole (omega (arith, end_ok index bytes c.0 c.1, length-file_text made behind.rules)) in
    subst (λ (y : FileLists). IsPatchFile y bytes) (ok_is made file c.2) (record { index = front.rules; bodies = behind.rules; text = text })

-- again: a file that is spelled is read
pub file_in-text : (file : FileLists) (bytes : List ℕ) → IsPatchFile file bytes → file_in bytes ≡ Ok file
unfolding file_in file_text
file_in-text file bytes is =
    let index = file.index in
    let bodies = flat_map (body_text index.version) file.bodies in
    let front : index_in bytes ≡ Ok index = ap index_in is.text ∙ index_in-text index bodies is.index in
    let placed : drop (bodies_offset index) bytes ≡ bodies ++ [] = ap (drop (bodies_offset index)) is.text ∙ drop_at (index_text index) bodies (bodies_offset index) (length-index_text index) ∙ sym (append-nil bodies) in
    let has = all_weaken (is_field (length index.nodes)) has_counts (λ f h. (and_parts (has_ends (length index.nodes) f) (has_counts f) h).1) index.fields is.index.fields in
    let behind : bodies_in index.version 0 (bodies_offset index) index.fields bytes ≡ Ok file.bodies = bodies_in-text index.version 0 (bodies_offset index) index.fields bytes [] file.bodies has is.bodies placed in
    let end : end_in index bytes ≡ Ok tt = end_again index bytes (omega (arith, ap length is.text, length-file_text file is.bodies)) in
    rw (front, behind, end) refl

-- one file for a string
pub same_file : (one other : FileLists) (bytes : List ℕ) → IsPatchFile one bytes → IsPatchFile other bytes → one ≡ other
same_file one other bytes p q = ok_is one other (sym (file_in-text one bytes p) ∙ file_in-text other bytes q)

-- one string for a file
pub same_string : (file : FileLists) (xs ys : List ℕ) → IsPatchFile file xs → IsPatchFile file ys → xs ≡ ys
same_string file xs ys p q = p.text ∙ sym q.text
