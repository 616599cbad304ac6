use Rattle.std.proofs.Common.{◌≡◌, ◌++◌, ◌∙◌, ap, List, ℕ, w32, append_assoc}
use Rattle.std.proofs.lemmas.Int.{to_z-of_z}
use Rattle.std.proofs.lemmas.Result.{on_ok_weaker}
use Rattle.file_model.specs.Numbers.{signed_text}
use Rattle.patch_body.proofs.spelling.push_three_signed.Goals as goal

pub returns : goal.returns
returns c =
    let x : c.push_i32.new.out.items ≡ c.args.out.now.items ++ signed_text c.args.x = rw (to_z-of_z w32 c.args.x c.ranges.x) at c.in_ok-push_i32.ensures in
    let y : c.push_i32-2.new.out.items ≡ c.push_i32.new.out.items ++ signed_text c.args.y = rw (to_z-of_z w32 c.args.y c.ranges.y) at c.in_ok-push_i32-2.ensures in
    on_ok_weaker c.push_i32-3.result (λ z. (rw (to_z-of_z w32 c.args.z c.ranges.z) at z) ∙ ap (λ (t : List ℕ). t ++ signed_text c.args.z) (y ∙ ap (λ (t : List ℕ). t ++ signed_text c.args.y) x) ∙ simp append_assoc) c.push_i32-3.ensures
