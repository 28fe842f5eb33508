-- What lies outside the program at one time, as far as it tells that.
use Rattle.std.specs.Prelude.{◌⊎◌, ℕ, List, Option}
use Rattle.disk_model.specs.Causes.{Rose}
use Rattle.disk_model.specs.Identity.{Binding, NamedDisk}
use Rattle.run_model.specs.CommandRun.{Faults}

-- How often the disk, a second image's disk, the source of keys, that of the script and the sink have failed.
pub record Counts : Type 0 where
  pub disk : ℕ
  pub second : ℕ
  pub key : ℕ
  pub script : ℕ
  pub sink : ℕ

-- What stands under each name on the disk, and the name that it is bound to; the same of a second image's disk; what
-- each key file has; what is left of the one that is read, and of the script; what the sink holds; and how often each
-- failed.
pub record World : Type 0 where
  pub named : List ℕ → NamedDisk
  pub bound : Binding
  pub second_named : List ℕ → NamedDisk
  pub second_bound : Binding
  pub keys : List ℕ → Option (List ℕ)
  pub key : Option (List ℕ)
  pub script : Option (List ℕ)
  pub held : Option (List ℕ)
  pub faults : Counts

-- Which of those of a command of one image have failed since.
abbrev pub rises : (before after : Counts) → Faults
rises before after = record {
  disk = Rose before.disk after.disk;
  key = Rose before.key after.key;
  script = Rose before.script after.script;
  sink = Rose before.sink after.sink;
}

-- Which have failed since, where either disk counts.
abbrev pub either_rises : (before after : Counts) → Faults
either_rises before after = record (rises before after) {
  disk = Rose before.disk after.disk ⊎ Rose before.second after.second;
}
