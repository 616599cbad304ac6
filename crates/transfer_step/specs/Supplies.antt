-- A file in a store as a supply.
use Rattle.std.specs.Prelude.{◌≡◌, ℕ, List, Option, None, Some, Err, IfSome}
use Rattle.std.specs.Borrow.{GName}
use Rattle.std.specs.Coded.{Unit-prop, le_prop}
use Rattle.file_model.specs.declared.faults.FileFault.{FileFault}
use Rattle.file_model.specs.Lists.{IndexLists, SeenBody}
use Rattle.view_outside.specs.Files.{Named, HasFile, file_bytes}
use Rattle.patch_file.specs.BodyRead.{IsBodyOf}
use Rattle.body_loads.specs.Loads.{body_at, read_as}

-- the file, by the index that it is read with, its number and the store's files where they are told; and by
-- which reference the store was lent
pub record StorePlace : Type 0 where
  pub index : IndexLists
  pub file : ℕ
  pub files : Option (List Named)
  pub lender : GName

-- the body is of the patch, and where the bytes are told it is what they say
pub record GivesFile (a : StorePlace) (p : ℕ) (body : SeenBody) : Type 0 where
  pub right : IsBodyOf a.index p body
  pub told : IfSome (file_bytes a.files a.file) (λ bytes. body_at a.index bytes p ≡ read_as body)

-- where the bytes are told, they break the body rule with the fault
pub record FindsInFile (a : StorePlace) (p : ℕ) (fault : FileFault) : Type 0 where
  pub told : IfSome (file_bytes a.files a.file) (λ bytes. body_at a.index bytes p ≡ Some (Err fault))

-- that the store has the file is a fact
pub HasFile-prop : (files : Option (List Named)) (file : ℕ) → IsProp (HasFile files file)
HasFile-prop None file = Unit-prop
HasFile-prop (Some files) file = le_prop
