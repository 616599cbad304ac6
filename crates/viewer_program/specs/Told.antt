-- The bytes of a named file, where the store tells them.
use Rattle.std.specs.Prelude.{ℕ, List, Option, None, Some}
use Rattle.std.specs.Option.{option_and_then}
use Rattle.view_outside.specs.Files.{Named, number_named, bytes_at}

abbrev pub named_bytes : Option (List Named) → List ℕ → Option (List ℕ)
named_bytes None name = None
named_bytes (Some files) name = option_and_then (bytes_at files) (number_named files name)
