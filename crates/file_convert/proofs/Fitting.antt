-- Which bodies fit a version.
use Rattle.std.proofs.Common.{◌≡◌, ℕ, suc, ◌+◌, ◌<◌, ◌≤◌, Bool, true, false, ◌&&◌, eqb, List, [], ◌∷◌, length, map, take, Option, Some, refl, sym, ap, subst, ◌∙◌, arith, inl, inr}
use Rattle.std.specs.Prelude.{slice_get, IfSome, IsTrue}
use Rattle.std.proofs.lemmas.Bool.{cases_eq, or_cases, eqb-true, and_from, and_parts}
use Rattle.std.specs.List.{list_all}
use Rattle.std.proofs.lemmas.List.Folds.{list_all-append}
use Rattle.std.proofs.lemmas.Option.{slice_get_within}
use Rattle.grid_vertex.specs.declared.points.Point.{Point}
use Rattle.file_model.specs.Lists.{BodyLists, SeenBody, IndexLists, corners_of}
use Rattle.file_model.specs.Spelling.{file_text}
use Rattle.file_model.specs.declared.fields.PatchField.{PatchField}
use Rattle.file_model.specs.Rules.{is_version, fits_field, is_body, are_bodies, IsIndex, IsPatchFile}
use Rattle.file_laws.specs.Bodies.{IsBody-from, is_body-from}
use Rattle.file_laws.specs.Files.{are_bodies-from}
use Rattle.patch_body.specs.Seen.{lists_with}
use Rattle.file_convert.specs.Converted.{with_version, fits_version, AllFit, IsLeastWide}
use Rattle.file_convert.specs.Held.{lists_of, held_file, HoldsBodies}
use Rattle.file_convert.proofs.Taken.{take_at}
use Rattle.file_convert.specs.ConvertLaws.{all_fit_1, fits_or_wide}

-- the first n bodies fit version 2
pub record FirstFit (bodies : List BodyLists) (n : ℕ) : Type 0 where
  pub fits : (p : ℕ) (b : BodyLists) → p < n → slice_get bodies p ≡ Some b → fits_version 2 b ≡ true

pub first_fit_none : (bodies : List BodyLists) → FirstFit bodies 0
first_fit_none bodies = record { fits = λ p b less here. absurd (omega arith) }

some_same : (o : Option BodyLists) (b x : BodyLists) → o ≡ Some b → o ≡ Some x → b ≡ x
some_same o b x h k = cc

pub first_fit_more : (bodies : List BodyLists) (k : ℕ) (b : BodyLists) → slice_get bodies k ≡ Some b → fits_version 2 b ≡ true → FirstFit bodies k → FirstFit bodies (k + 1)
first_fit_more bodies k b here fits first = record {
  fits = λ p x less at. elim (cases_eq p k) [
    | inl same ↦ ap (λ y. fits_version 2 y) (some_same (slice_get bodies k) x b (ap (λ j. slice_get bodies j) (sym same) ∙ at) here) ∙ fits
    | inr apart ↦ first.fits p x (omega arith) at
  ];
}

pub least_wide : (bodies : List BodyLists) (k : ℕ) (b : BodyLists) → slice_get bodies k ≡ Some b → fits_version 2 b ≡ false → FirstFit bodies k → IsLeastWide bodies k
least_wide bodies k b here wide first = record { wide = (b, here, wide); earlier = first.fits }

clash : (t : Bool) → t ≡ true → t ≡ false → ⊥
clash t h k = absurd cc

pub all_fit : (bodies : List BodyLists) (n : ℕ) → length bodies ≤ n → FirstFit bodies n → AllFit 2 bodies
all_fit bodies n all first =
    elim (fits_or_wide bodies) [
      | inl fit ↦ fit
      | inr (patch, least) ↦ absurd (clash (fits_version 2 least.wide.0) (first.fits patch least.wide.0 (omega (arith, slice_get_within bodies patch least.wide.0 least.wide.1)) least.wide.1) least.wide.2)
    ]

pub all_fit_other : (version : ℕ) (bodies : List BodyLists) → is_version version ≡ true → (version ≡ 2 → ⊥) → AllFit version bodies
all_fit_other version bodies known other =
    elim (or_cases (eqb version 1) (eqb version 2) known) [
      | inl one ↦ subst (λ (v : ℕ). AllFit v bodies) (sym (eqb-true version 1 one)) (all_fit_1 bodies)
      | inr two ↦ absurd (other (eqb-true version 2 two))
    ]

-- a body follows the rules in another version that it fits
pub other_rules : (version was : ℕ) (body made : BodyLists) → made ≡ body → is_body was body ≡ true → fits_version version body ≡ true → is_body version made ≡ true
other_rules version was body made same h fits =
    let is = IsBody-from was body h in
    subst (λ (b : BodyLists). is_body version b ≡ true) (sym same) (is_body-from version body (record { in_grid = is.in_grid; narrow = fits; triangles = is.triangles }))

pub lists_are : (body : BodyLists) (ps : List Point) (ts : List (List ℕ)) → ps ≡ body.points → map corners_of ts ≡ body.corners → lists_with ps ts ≡ body
lists_are body ps ts points corners = λ i. record { points = points i; corners = corners i }

-- bodies that follow the rules, each with the numbers of its field
pub are_from : (version : ℕ) (fs : List PatchField) (seen : List SeenBody) → length seen ≡ length fs → ((p : ℕ) (f : PatchField) (b : SeenBody) → slice_get fs p ≡ Some f → slice_get seen p ≡ Some b → IsTrue (fits_field f b.lists)) → list_all (is_body version) (lists_of seen) ≡ true → IsTrue (are_bodies version fs (lists_of seen))
unfolding are_bodies
are_from version [] [] many fits rules = refl
are_from version [] (b ∷ bs) many fits rules = absurd (omega arith)
are_from version (f ∷ fs) [] many fits rules = absurd (omega arith)
are_from version (f ∷ fs) (b ∷ bs) many fits rules =
    let parts = and_parts (is_body version b.lists) (list_all (is_body version) (lists_of bs)) rules in
    are_bodies-from version f fs b.lists (lists_of bs) (record {
      fits = fits 0 f b refl refl;
      body = parts.0;
      others = are_from version fs bs (omega arith) (λ p g c here there. fits (suc p) g c here there) parts.1;
    })

pub held_are : (version : ℕ) (index : IndexLists) (seen : List SeenBody) → HoldsBodies index seen → list_all (is_body version) (lists_of seen) ≡ true → IsTrue (are_bodies version index.fields (lists_of seen))
held_are version index seen holds rules =
    are_from version index.fields seen holds.as_many (λ p f b here there. subst (λ (o : Option PatchField). IfSome o (λ (field : PatchField). IsTrue (fits_field field b.lists))) here (holds.each p b there).fits) rules

pub converted_is_file : (version : ℕ) (index : IndexLists) (seen : List SeenBody) → is_version version ≡ true → IsIndex index → HoldsBodies index seen → list_all (is_body version) (lists_of seen) ≡ true → IsPatchFile (with_version version (held_file index seen)) (file_text (with_version version (held_file index seen)))
converted_is_file version index seen known rules holds all = record {
  index = record { version = known; node_count = rules.node_count; patch_count = rules.patch_count; nodes = rules.nodes; fields = rules.fields };
  bodies = held_are version index seen holds all;
  text = refl;
}

-- one more body that follows the rules
pub rules_more : (version : ℕ) (bs : List BodyLists) (k : ℕ) (b : BodyLists) → slice_get bs k ≡ Some b → is_body version b ≡ true → list_all (is_body version) (take k bs) ≡ true → list_all (is_body version) (take (k + 1) bs) ≡ true
rules_more version bs k b here rules all =
    ap (λ xs. list_all (is_body version) xs) (take_at bs k b here) ∙ list_all-append (is_body version) (take k bs) (b ∷ [])
    ∙ and_from (list_all (is_body version) (take k bs)) (is_body version b && true) all (and_from (is_body version b) true rules refl)
