-- Bodies that were loaded one by one are those of all patches in order.
use Rattle.std.proofs.Common.{◌≡◌, ℕ, ◌+◌, List, length, map, Some, get_or, sym, ap, subst, ◌∙◌, arith}
use Rattle.std.specs.Prelude.{All, slice_get, option_map}
use Rattle.std.specs.List.{Contains, range_with_len}
use Rattle.std.proofs.lemmas.List.{length-map}
use Rattle.std.proofs.lemmas.List.Elements.{All-contains}
use Rattle.std.proofs.lemmas.List.FromFn.{length-range_with_len, get_or-range_with_len}
use Rattle.std.proofs.lemmas.Option.{slice_get-map, slice_get_within, get_or_from_slice_get}
use Rattle.file_model.specs.Lists.{IndexLists, SeenBody}
use Rattle.patch_file.specs.BodyRead.{IsBodyOf}
use Rattle.file_convert.specs.Held.{HoldsBodies}

number_at : (bodies : List SeenBody) (n p : ℕ) (b : SeenBody) → map (λ (x : SeenBody). x.patch) bodies ≡ range_with_len 0 n → slice_get bodies p ≡ Some b → b.patch ≡ p
number_at bodies n p b numbers at =
    let within = slice_get_within bodies p b at in
    let many : length bodies ≡ n = sym (length-map bodies (λ (x : SeenBody). x.patch)) ∙ ap length numbers ∙ length-range_with_len 0 n in
    let here : slice_get (map (λ (x : SeenBody). x.patch) bodies) p ≡ Some b.patch = slice_get-map (λ (x : SeenBody). x.patch) bodies p ∙ ap (λ o. option_map (λ (x : SeenBody). x.patch) o) at in
    let ranged : get_or (range_with_len 0 n) p 0 ≡ 0 + p = get_or-range_with_len 0 n p 0 (omega arith) in
    sym (get_or_from_slice_get (map (λ (x : SeenBody). x.patch) bodies) p b.patch 0 here) ∙ ap (λ ks. get_or ks p 0) numbers ∙ ranged ∙ omega arith

pub loaded_are_held : (index : IndexLists) (bodies : List SeenBody) → map (λ (x : SeenBody). x.patch) bodies ≡ range_with_len 0 (length index.fields) → All (λ (b : SeenBody). IsBodyOf index b.patch b) bodies → HoldsBodies index bodies
loaded_are_held index bodies numbers all = record {
  as_many = sym (length-map bodies (λ (x : SeenBody). x.patch)) ∙ ap length numbers ∙ length-range_with_len 0 (length index.fields);
  each = λ p b at.
      let there : Contains bodies b = (p, slice_get_within bodies p b at, get_or_from_slice_get bodies p b b at) in
      subst (λ (q : ℕ). IsBodyOf index q b) (number_at bodies (length index.fields) p b numbers at) (All-contains (λ (x : SeenBody). IsBodyOf index x.patch x) bodies b all there);
}
