-- What the loop of `change_list` keeps.
use Rattle.std.proofs.Common.{◌≡◌, ◌*◌, ◌-◌, ◌≤◌, length, drop}
use Rattle.regions.specs.Bytes.{read_regions}
use Rattle.regions.specs.Changes.{change}
use Rattle.regions.proofs.Update.{walk}
use Rattle.lists.specs.Steps.{finished}
use Rattle.lists.proofs.Walking.{Ahead}
use Rattle.lists.proofs.change_list.Given as goal

abbrev pub invariant-loop-i : goal.invariant-loop-i
invariant-loop-i l =
    let records = read_regions l.table.count l.table.bytes.now in
    let rest = read_regions (l.table.count - l.i) (drop (24 * l.i) l.table.bytes.now) in
    let edit = l.edit in
    record {
      room : 24 * l.built.count ≤ length l.built.out.now;
      same : l.built.out.ghost_name ≡ l.initial.built.out.ghost_name;
      long : length l.built.out.now ≡ length l.fn.out;
      ahead : Ahead l.from.0 rest;
      walked : finished edit records ≡ walk (change edit.change) edit.lo.0 edit.hi.0 (read_regions l.built.count l.built.out.now) l.from.0 rest;
    }
