use Rattle.std.proofs.Common.{◌<◌, length, sym, ap, subst, arith}
use Rattle.file_model.specs.Lists.{IndexLists, body_size}
use Rattle.patch_file.proofs.BodySizes.{body_within}
use Rattle.patch_file.proofs.index.Index.body_size.Goals as goal

pub returns-clause-within : goal.returns-clause-within
returns-clause-within c =
    let inside = c.self.inside in
    let lt : c.args.patch < length inside.fields.items = subst (λ (v : IndexLists). c.args.patch < length v.fields) (sym c.self.view_is) c.requires in
    let within = body_within inside.version inside.fields.items c.args.patch c.index.result.now lt in
    rw (← c.self.view_is) (omega (arith, within, c.body_size.ensures.value, ap (body_size inside.version) c.index.ensures))
