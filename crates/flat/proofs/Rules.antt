-- Where slots lie, for the goals on bounds.
use Rattle.store.proofs.Inside.{key_out}
use Rattle.flat_theory.proofs.Slots.{slot_fits}

pub ruleset places = (slot_fits, key_out)
