-- What stays of a file in another version, and which files have none of version 2.
use Rattle.std.proofs.Common.{◌≡◌, ℕ, zero, suc, ◌<◌, true, false, List, [], ◌∷◌, Option, Some, refl, sym, ap, ◌∙◌, arith, inl, inr}
use Rattle.std.specs.Prelude.{◌⊎◌, slice_get, IsTrue}
use Rattle.std.specs.List.{list_all}
use Rattle.std.proofs.lemmas.Bool.{and_from, and_parts, cases_Bool, cases_order}
use Rattle.file_model.specs.declared.fields.PatchField.{PatchField}
use Rattle.file_model.specs.Lists.{BodyLists, FileLists}
use Rattle.file_model.specs.Spelling.{file_text}
use Rattle.file_model.specs.Rules.{is_version, are_bodies, IsPatchFile}
use Rattle.file_laws.specs.Bodies.{IsBody-from, is_body-from}
use Rattle.file_laws.specs.Files.{are_bodies-parts, are_bodies-from}
use Rattle.mesh_model.specs.Accepted.{IsAccepted}
use Rattle.file_convert.specs.Converted.{with_version, fits_version, AllFit, IsLeastWide}

-- ---- patch files
converted_bodies : (here there : ℕ) (fs : List PatchField) (bs : List BodyLists) → IsTrue (are_bodies here fs bs) → list_all (fits_version there) bs ≡ true → IsTrue (are_bodies there fs bs)
unfolding are_bodies
converted_bodies here there [] [] h fit = refl
converted_bodies here there [] (b ∷ bs) h fit = h
converted_bodies here there (f ∷ fs) [] h fit = h
converted_bodies here there (f ∷ fs) (b ∷ bs) h fit =
    let are = are_bodies-parts here f fs b bs h in
    let was = IsBody-from here b are.body in
    let fits = and_parts (fits_version there b) (list_all (fits_version there) bs) fit in
    are_bodies-from there f fs b bs (record {
      fits = are.fits;
      body = is_body-from there b (record { in_grid = was.in_grid; narrow = fits.0; triangles = was.triangles });
      others = converted_bodies here there fs bs are.others fits.1;
    })

bodies_fit : (version : ℕ) (fs : List PatchField) (bs : List BodyLists) → IsTrue (are_bodies version fs bs) → list_all (fits_version version) bs ≡ true
unfolding are_bodies
bodies_fit version [] [] h = refl
bodies_fit version [] (b ∷ bs) h = absurd cc
bodies_fit version (f ∷ fs) [] h = absurd cc
bodies_fit version (f ∷ fs) (b ∷ bs) h =
    let are = are_bodies-parts version f fs b bs h in
    and_from (fits_version version b) (list_all (fits_version version) bs) (IsBody-from version b are.body).narrow (bodies_fit version fs bs are.others)

pub converted_is_file : (version : ℕ) (file : FileLists) (bytes : List ℕ) → IsTrue (is_version version) → IsPatchFile file bytes → AllFit version file.bodies → IsPatchFile (with_version version file) (file_text (with_version version file))
converted_is_file version file bytes known is fit = record {
  index = record { version = known; node_count = is.index.node_count; patch_count = is.index.patch_count; nodes = is.index.nodes; fields = is.index.fields };
  bodies = converted_bodies file.index.version version file.index.fields file.bodies is.bodies fit;
  text = refl;
}

pub file_fits : (version : ℕ) (file : FileLists) (bytes : List ℕ) → IsPatchFile (with_version version file) bytes → AllFit version file.bodies
file_fits version file bytes is = bodies_fit version file.index.fields file.bodies is.bodies

pub all_fit_1 : (bodies : List BodyLists) → AllFit 1 bodies
all_fit_1 [] = refl
all_fit_1 (b ∷ bs) = all_fit_1 bs

-- ---- meshes

pub converted_accepted : (version : ℕ) (file : FileLists) (root : ℕ) → IsAccepted file root → IsAccepted (with_version version file) root
converted_accepted version file root h = record {
  graph = record { one_root = h.graph.one_root; grounded = h.graph.grounded; errors = h.graph.errors; balls = h.graph.balls };
  nets = h.nets;
}

pub accepted_converted : (version : ℕ) (file : FileLists) (root : ℕ) → IsAccepted (with_version version file) root → IsAccepted file root
accepted_converted version file root h = record {
  graph = record { one_root = h.graph.one_root; grounded = h.graph.grounded; errors = h.graph.errors; balls = h.graph.balls };
  nets = h.nets;
}

-- ---- the least wide patch

abbrev some : BodyLists → Option BodyLists
some b = Some b

some_is : (b x : BodyLists) → some b ≡ some x → b ≡ x
some_is b x e = cc

pub fits_at : (version : ℕ) (bodies : List BodyLists) (patch : ℕ) (b : BodyLists) → AllFit version bodies → slice_get bodies patch ≡ Some b → fits_version version b ≡ true
fits_at version [] patch b fit here = absurd cc
fits_at version (x ∷ xs) zero b fit here = ap (λ y. fits_version version y) (sym (some_is x b here)) ∙ (and_parts (fits_version version x) (list_all (fits_version version) xs) fit).0
fits_at version (x ∷ xs) (suc k) b fit here = fits_at version xs k b (and_parts (fits_version version x) (list_all (fits_version version) xs) fit).1 here

pub none_wide : (bodies : List BodyLists) (patch : ℕ) → AllFit 2 bodies → IsLeastWide bodies patch → ⊥
none_wide bodies patch fit least = let fits = fits_at 2 bodies patch least.wide.0 fit least.wide.1 in let wide = least.wide.2 in absurd cc

clash : (b : BodyLists) → fits_version 2 b ≡ true → fits_version 2 b ≡ false → ⊥
clash b h k = absurd cc

pub wide_is_one : (bodies : List BodyLists) (p q : ℕ) → IsLeastWide bodies p → IsLeastWide bodies q → p ≡ q
wide_is_one bodies p q h k =
    elim (cases_order p q) [
      | inl same ↦ same
      | inr (inl less) ↦ absurd (clash h.wide.0 (k.earlier p h.wide.0 less h.wide.1) h.wide.2)
      | inr (inr more) ↦ absurd (clash k.wide.0 (h.earlier q k.wide.0 more k.wide.1) k.wide.2)
    ]

pub later_wide : (b : BodyLists) (bs : List BodyLists) (p : ℕ) → fits_version 2 b ≡ true → IsLeastWide bs p → IsLeastWide (b ∷ bs) (suc p)
later_wide b bs p fits least = record {
  wide = least.wide;
  earlier = earlier;
} where
  earlier : (q : ℕ) (x : BodyLists) → q < suc p → slice_get (b ∷ bs) q ≡ Some x → fits_version 2 x ≡ true
  earlier zero x less here = ap (λ y. fits_version 2 y) (sym (some_is b x here)) ∙ fits
  earlier (suc q) x less here = least.earlier q x (omega arith) here

pub fits_or_wide : (bodies : List BodyLists) → AllFit 2 bodies ⊎ ((patch : ℕ) × IsLeastWide bodies patch)
fits_or_wide [] = inl refl
fits_or_wide (b ∷ bs) =
    elim (cases_Bool (fits_version 2 b)) [
      | inr wide ↦ inr (0, record { wide = (b, refl, wide); earlier = λ p x less here. absurd (omega arith) })
      | inl fits ↦ elim (fits_or_wide bs) [
        | inl all ↦ inl (and_from (fits_version 2 b) (list_all (fits_version 2) bs) fits all)
        | inr least ↦ inr (suc least.0, later_wide b bs least.0 fits least.1)
      ]
    ]
