-- It means what the store in it means.
use Rattle.store.specs.Meaning.{Meaning}
use Rattle.flat.specs.Meaning.{flat_meaning}
use Rattle.chained.specs.Meaning.{chained_meaning}
use Rattle.anystore.specs.declared.types.AnyStore.{AnyStore}
use Rattle.anystore.specs.declared.types.AnyStore.TheVariants.{Flat, Chained}

abbrev pub any_meaning : AnyStore → Meaning
any_meaning (Flat s) = flat_meaning s
any_meaning (Chained s) = chained_meaning s
