use Rattle.text_model.specs.AcceptedText.{accepted_line}
use Rattle.still_texts.proofs.ShownLemmas.{first_piece}
use Rattle.still_texts.proofs.accepted.accepted_text.Goals as goal

pub returns-clause-of_file : goal.returns-clause-of_file
unfolding accepted_line
returns-clause-of_file c = λ file is. record {
  open_edges = c.base_open.result;
  counted = rw c.base_open.ensures is.base;
  is = rw is.index (rw (c.from.ensures, c.node_count.ensures.value, c.index.ensures.value, c.from-2.ensures, c.patch_count.ensures.value, c.index-2.ensures.value, c.triangle_sum.ensures) at (first_piece _ _ _ c.new-text.ensures.items c.in_ok-add_line.ensures.ok));
}

pub returns-clause-line : goal.returns-clause-line
unfolding accepted_line
returns-clause-line c = record {
  nodes = c.from.result;
  patches = c.from-2.result;
  triangles = c.triangle_sum.result;
  open_edges = c.base_open.result;
  is = first_piece _ _ _ c.new-text.ensures.items c.in_ok-add_line.ensures.ok;
}
