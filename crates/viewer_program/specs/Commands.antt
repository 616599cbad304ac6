-- What the words ask for.
use Rattle.std.specs.Prelude.{ℕ, ◌==◌, List, [], ◌∷◌, length, Option, Some, None, option_map, codes, bytes_eq, IsTrue, if◌then◌else◌}
use Rattle.file_model.specs.Rules.{is_version}
use Rattle.round_model.specs.declared.limits.TheConstants.{EYE_REACH}
use Rattle.round_model.specs.Views.{ViewSeen}
use Rattle.ray_pick.specs.Rays.{RaySeen}
use Rattle.viewer_program.specs.declared.commands.FileCommand.{FileCommand}
use Rattle.viewer_program.specs.declared.commands.FileCommand.TheVariants.{Base, Check, Full, Convert, Cull, Sides, Pick}
use Rattle.viewer_program.specs.Spelt.{version_in, point_in, view_in, half_space_in, planes_in, ray_in}

-- ---- the command of the words behind a file's name

abbrev pub command_alone : FileCommand → List (List ℕ) → Option FileCommand
command_alone command [] = Some command
command_alone command words = None

abbrev pub convert_in : List (List ℕ) → Option FileCommand
convert_in (version ∷ []) = option_map Convert (version_in version)
convert_in words = None

abbrev pub full_in : List (List ℕ) → Option FileCommand
full_in (x ∷ y ∷ z ∷ focal ∷ threshold ∷ limit ∷ []) = option_map Full (view_in (point_in EYE_REACH x y z) focal threshold limit)
full_in words = None

abbrev pub cull_in : List (List ℕ) → Option FileCommand
cull_in (x ∷ y ∷ z ∷ focal ∷ threshold ∷ limit ∷ words) = option_map Cull (planes_in (view_in (point_in EYE_REACH x y z) focal threshold limit) words)
cull_in words = None

abbrev pub sides_in : List (List ℕ) → Option FileCommand
sides_in (a ∷ b ∷ c ∷ d ∷ []) = option_map Sides (half_space_in a b c d)
sides_in words = None

abbrev pub pick_from : Option ViewSeen → Option RaySeen → Option FileCommand
pick_from (Some view) (Some ray) = Some (Pick view ray)
pick_from view ray = None

abbrev pub pick_in : List (List ℕ) → Option FileCommand
pick_in (x ∷ y ∷ z ∷ focal ∷ threshold ∷ limit ∷ words) = pick_from (view_in (point_in EYE_REACH x y z) focal threshold limit) (ray_in words)
pick_in words = None

-- the command of a word, a file's name, which isn't empty, and the words behind it
abbrev pub command_named : List ℕ → List ℕ → List (List ℕ) → Option FileCommand
command_named first name words =
    if length name == 0 then None else
    if bytes_eq first (codes "base") then command_alone Base words else
    if bytes_eq first (codes "check") then command_alone Check words else
    if bytes_eq first (codes "full") then full_in words else
    if bytes_eq first (codes "convert") then convert_in words else
    if bytes_eq first (codes "cull") then cull_in words else
    if bytes_eq first (codes "sides") then sides_in words else
    if bytes_eq first (codes "pick") then pick_in words else
    None

abbrev pub command_in : List (List ℕ) → Option FileCommand
command_in (first ∷ name ∷ words) = command_named first name words
command_in others = None

-- a version that the command names is one that there is
abbrev pub IsKnown : FileCommand → Type 0
IsKnown (Convert version) = IsTrue (is_version version)
IsKnown command = Unit {0}

-- the name of the file, the second word
abbrev pub name_in : List (List ℕ) → List ℕ
name_in (first ∷ name ∷ others) = name
name_in others = []
