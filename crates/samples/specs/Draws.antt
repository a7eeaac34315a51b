-- What drawing does to a source. Assumes nothing.
use Rattle.samples.specs.declared.samples.Samples.{Samples}
use Rattle.samples.specs.Samples.{next}

-- the source once two numbers were drawn
abbrev pub drawn_twice : Samples → Samples
drawn_twice s = record s { random = record { state = next (next s.random.state) } }
