use Rattle.detail_laws.specs.BaseLaws.{base-opened, base-turned}
use Rattle.detail_laws.proofs.base_patches_stay.Goals as goal

pub returns : goal.returns
returns c = record { opened = base-opened; turned = base-turned }
