-- The entries of a plan, as a text has them: names are lists of bytes.
use Rattle.std.specs.Prelude.{ℕ, List, Option, map}
use Rattle.railway.specs.declared.block.Block.{Block}
use Rattle.railway.specs.declared.block.Point.{Point}
use Rattle.railway.specs.declared.joint.Joint.{Joint}
use Rattle.railway.specs.declared.joint.Turnout.{Turnout}
use Rattle.railway.specs.declared.plan.Plan.{Plan}
use Rattle.railway.specs.declared.train.Train.{Train}

pub record BlockEntry : Type 0 where
  pub name : List ℕ
  pub length : ℕ
  pub sensor : Option ℕ
  pub point_a : Option Point
  pub point_b : Option Point

pub record PlanEntries : Type 0 where
  pub blocks : List BlockEntry
  pub joints : List Joint
  pub turnouts : List Turnout
  pub trains : List Train

abbrev pub block_entry : Block → BlockEntry
block_entry block = record {
  name = block.name.bytes;
  length = block.length;
  sensor = block.sensor;
  point_a = block.point_a;
  point_b = block.point_b;
}

abbrev pub plan_entries : Plan → PlanEntries
plan_entries plan = record {
  blocks = map block_entry plan.blocks.items;
  joints = plan.joints.items;
  turnouts = plan.turnouts.items;
  trains = plan.trains.items;
}

abbrev pub name_of : BlockEntry → List ℕ
name_of entry = entry.name

abbrev pub names_of : List Block → List (List ℕ)
names_of blocks = map name_of (map block_entry blocks)
