-- Four numbers added to a record.
use Rattle.std.specs.Prelude.{ℕ, ◌+◌}
use Rattle.usage.specs.declared.Usage.{Usage}
use Rattle.usage.specs.Counters.{saturated, usage_of}

-- four numbers added, each sum cut
abbrev pub added : Usage → ℕ → ℕ → ℕ → ℕ → Usage
added u c r a d = usage_of (saturated (u.calls + c)) (saturated (u.refusals + r)) (saturated (u.acceptances + a)) (saturated (u.called + d))
