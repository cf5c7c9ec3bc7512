-- What is lent is what the word's type writes by the sizes that are lent.
use Rattle.lending.proofs.Laying.{lent_given}
use Rattle.lending.proofs.lend.Goals as goal

pub invariant_of-lent : goal.invariant_of-lent
invariant_of-lent g c = record { given = lent_given _ c.lent_sizes.ensures }

pub returns : goal.returns
returns g c = rw (← c.lent_sizes.ensures) c.write_table.ensures
