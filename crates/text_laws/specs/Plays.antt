-- A play over a file whose bytes are told has one world, and one text for what the store gave.
use Rattle.std.proofs.Common.{◌≡◌, ℕ, List, [], ◌∷◌, length, get_or, Some, Result, Ok, Err, sym, ap, subst, ◌∙◌}
use Rattle.file_model.specs.declared.faults.FileFault.{FileFault}
use Rattle.file_model.specs.Lists.{FileLists}
use Rattle.mesh_model.specs.Graph.{roots}
use Rattle.script_model.specs.declared.orders.Line.{Line}
use Rattle.run_model.specs.Worlds.{World, IsWorld}
use Rattle.run_laws.specs.ToldWorlds.{IsWorldOver}
use Rattle.run_model.specs.RunTexts.{StoreOutcome, IsRunText}
use Rattle.run_laws.specs.OneRun.{run_text_is_one}
use Rattle.text_laws.specs.Meshes.{mesh_is_one}

-- the world is of the file of these bytes, with these budgets and this width
pub record IsOver (bytes budgets : List ℕ) (width : ℕ) (w : World) : Type 0 where
  pub world : IsWorld w
  pub budgets_are : w.budgets ≡ budgets
  pub width_is : w.width ≡ width
  pub over : IsWorldOver bytes w

abbrev file_or : FileLists → Result FileLists FileFault → FileLists
file_or file (Ok other) = other
file_or file (Err fault) = file

one_file : (read : Result FileLists FileFault) (file other : FileLists) → read ≡ Ok file → read ≡ Ok other → file ≡ other
one_file read file other first second = ap (file_or file) (sym first ∙ second)

one_root : (file other : FileLists) (root top : ℕ) → file ≡ other → roots (length file.index.nodes) file.index.fields ≡ root ∷ [] → roots (length other.index.nodes) other.index.fields ≡ top ∷ [] → root ≡ top
one_root file other root top same first second =
    ap (λ (rs : List ℕ). get_or rs 0 0) (sym first ∙ ap (λ (f : FileLists). roots (length f.index.nodes) f.index.fields) same ∙ second)

pub world_is_one : (bytes budgets : List ℕ) (width : ℕ) (v w : World) → IsOver bytes budgets width v → IsOver bytes budgets width w → v ≡ w
world_is_one bytes budgets width v w h k =
    let file = one_file _ h.over.file k.over.file h.over.read k.over.read in
    let index = sym h.over.index ∙ ap (λ (f : FileLists). f.index) file ∙ k.over.index in
    let root = one_root h.over.file k.over.file v.mesh.root w.mesh.root file h.over.accepted.graph.one_root k.over.accepted.graph.one_root in
    let mesh = mesh_is_one v.mesh w.mesh h.world.mesh k.world.mesh index root in
    let bodies = h.over.bodies ∙ ap (λ (f : FileLists). Some f.bodies) file ∙ sym k.over.bodies in
    let budgets_one = h.budgets_are ∙ sym k.budgets_are in
    let width_one = h.width_is ∙ sym k.width_is in
    λ i. record { mesh = mesh i; bodies = bodies i; budgets = budgets_one i; width = width_one i }

pub play_text_is_one : (bytes budgets : List ℕ) (width : ℕ) (v w : World) (lines : List Line) (outcomes : List StoreOutcome) (first second : List ℕ) → IsOver bytes budgets width v → IsOver bytes budgets width w → IsRunText v lines outcomes first → IsRunText w lines outcomes second → first ≡ second
play_text_is_one bytes budgets width v w lines outcomes first second h k one two =
    run_text_is_one w k.over.file.bodies k.over.bodies k.world lines outcomes first second
    (subst (λ (u : World). IsRunText u lines outcomes first) (world_is_one bytes budgets width v w h k) one) two
