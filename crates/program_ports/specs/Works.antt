-- Works that were started, and what they give.
use Rattle.std.specs.Prelude.{◌≡◌, ℕ}
use Rattle.program_ports.specs.declared.spawning.Spawned.{Spawned}
use Rattle.program_ports.specs.declared.spawning.Spawned.TheVariants.{Thread, Held}
use Rattle.program_ports.specs.declared.threads.Ended.{Ended}
use Rattle.program_ports.specs.declared.threads.Ended.TheVariants.{Gave, Back}

-- the works that were started and not finished, and the starts that were refused
pub record SpawningView : Type 0 where
  pub unfinished : ℕ
  pub faults : ℕ

module _ {W D : Type 0} where
  -- the work may give this, or this is the work
  abbrev pub EndsFrom : (W → D → Type 0) → W → Ended W D → Type 0
  EndsFrom may_give work (Gave done) = may_give work done
  EndsFrom may_give work (Back same) = same ≡ work

  -- the work that was started
  abbrev pub work_of : Spawned W D → W
  work_of (Thread r) = r.thread.promise.0.value
  work_of (Held w) = w
