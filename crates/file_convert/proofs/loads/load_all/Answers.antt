-- The bodies of all patches are loaded in order.
use Rattle.std.proofs.Common.{◌≡◌, ◌<◌, ℕ, List, Result, Ok, Err, length, map, get_or, arith}
use Rattle.std.specs.Prelude.{All, IfOk}
use Rattle.std.specs.Arc.{arc_value}
use Rattle.std.specs.List.{range_with_len}
use Rattle.std.proofs.lemmas.List.FromFn.{length-range_with_len, get_or-range_with_len}
use Rattle.file_model.specs.Lists.{IndexLists, SeenBody}
use Rattle.patch_file.specs.BodyRead.{IsBodyOf}
use Rattle.body_loads.specs.Loads.{patches_of}
use Rattle.file_convert.specs.Held.{HoldsBodies}
use Rattle.file_convert.specs.Loaded.{loaded_are_held}
use Rattle.file_convert.specs.Whole.{all_patches}
use Rattle.file_convert.proofs.Sizes.{sizes_of_all}
use Rattle.file_convert.proofs.loads.load_all.Goals as goal

all_below : (n k d : ℕ) → k < length (range_with_len 0 n) → get_or (range_with_len 0 n) k d < n
all_below n k d within =
    let few : k < n = omega (arith, length-range_with_len 0 n) in
    omega (arith, get_or-range_with_len 0 n k d few)

holds : {T E : Type 0} (seen : T → List SeenBody) (result : Result T E) (index : IndexLists) → IfOk result (λ loaded. patches_of (seen loaded) ≡ all_patches index) → IfOk result (λ loaded. All (λ (body : SeenBody). IsBodyOf index body.patch body) (seen loaded)) → IfOk result (λ loaded. HoldsBodies index (seen loaded))
holds seen (Ok loaded) index numbers own = loaded_are_held index (seen loaded) numbers own
holds seen (Err refusal) index numbers own = tt

pub load_bodies-requires-clause-patches : goal.load_bodies-requires-clause-patches
load_bodies-requires-clause-patches g c = rw (c.deref.ensures.value, c.in_ok-patches.ensures) (all_below (length c.args.index.now.fields))

pub returns-clause-bodies : goal.returns-clause-bodies
returns-clause-bodies g c =
    holds (λ bodies. map arc_value bodies.items) c.load_bodies.result c.args.index.now (rw (c.deref.ensures.value, c.in_ok-patches.ensures) at c.load_bodies.ensures.patches) c.load_bodies.ensures.bodies

pub returns-clause-taken : goal.returns-clause-taken
returns-clause-taken g c = rw (c.deref.ensures.value, c.in_ok-patches.ensures, sizes_of_all c.args.index.now) at c.load_bodies.ensures.taken

pub returns-clause-cut : goal.returns-clause-cut
returns-clause-cut g c = rw (c.deref.ensures.value, c.in_ok-patches.ensures, sizes_of_all c.args.index.now) at c.load_bodies.ensures.cut
