use Rattle.std.proofs.Common.{◌≡◌, ◌*◌, length, drop}
use lib.Seq.{sets}
use Rattle.ground.specs.Lists.{each}
use Rattle.stations.specs.Encode.{record_of}
use Rattle.granting.proofs.put_rest.Given as goal

-- the records that are left, written from here, are all of them written from the start
abbrev pub invariant-loop-r : goal.invariant-loop-r
invariant-loop-r l = record {
  place : l.at ≡ 16 * l.r-index;
  room : length l.rest ≡ length l.initial.rest;
  todo : sets l.rest l.at (each record_of (drop l.r-index l.records)) ≡ sets l.initial.rest 0 (each record_of l.records);
}
