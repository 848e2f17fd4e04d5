-- Every flat store's meaning is sound: by what its fields keep.
use Rattle.store.specs.Meaning.{Sound}
use Rattle.flat_theory.proofs.Finds.{flat_sounds}
use Rattle.flat.specs.declared.types.Flat.{Flat}
use Rattle.flat.specs.Meaning.{flat_meaning}

pub flat_sound : (s : Flat) → Sound (flat_meaning s)
flat_sound s = flat_sounds _ _ _ _ _ _ _ s.extent.widths s.extent.closings s.extent.places s.fits s.memory.ok.0 s.counts
