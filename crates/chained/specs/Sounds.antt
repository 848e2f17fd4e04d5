-- Every chained store's meaning is sound: by what its fields keep.
use Rattle.store.specs.Meaning.{Sound}
use Rattle.chained_theory.proofs.Walks.{chained_sounds}
use Rattle.chained.specs.declared.types.Chained.{Chained}
use Rattle.chained.specs.Meaning.{chained_meaning}

pub chained_sound : (s : Chained) → Sound (chained_meaning s)
chained_sound s = chained_sounds _ _ _ _ _ _ _ _ s.extent.widths s.extent.closings s.extent.places s.shut s.fits s.memory.ok.0 s.heads s.nexts
