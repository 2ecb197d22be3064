-- The bytes of slot data, as contracts see them.
use Rattle.std.specs.Prelude.{ℕ, ◌<◌}

-- what stands between the count and the check of OPC_SL_RD_DATA and OPC_WR_SL_DATA, in this order
pub record SlotBytes : Type 0 where
  pub slot : ℕ
  pub stat : ℕ
  pub adr : ℕ
  pub spd : ℕ
  pub dirf : ℕ
  pub trk : ℕ
  pub ss2 : ℕ
  pub adr2 : ℕ
  pub snd : ℕ
  pub id1 : ℕ
  pub id2 : ℕ

-- these bytes, in the order of the message
abbrev pub slot_bytes : (slot stat adr spd dirf trk ss2 adr2 snd id1 id2 : ℕ) → SlotBytes
slot_bytes slot stat adr spd dirf trk ss2 adr2 snd id1 id2 = record {
  slot = slot;
  stat = stat;
  adr = adr;
  spd = spd;
  dirf = dirf;
  trk = trk;
  ss2 = ss2;
  adr2 = adr2;
  snd = snd;
  id1 = id1;
  id2 = id2;
}

-- each is a byte of data
pub record AreData (f : SlotBytes) : Type 0 where
  pub slot : f.slot < 128
  pub stat : f.stat < 128
  pub adr : f.adr < 128
  pub spd : f.spd < 128
  pub dirf : f.dirf < 128
  pub trk : f.trk < 128
  pub ss2 : f.ss2 < 128
  pub adr2 : f.adr2 < 128
  pub snd : f.snd < 128
  pub id1 : f.id1 < 128
  pub id2 : f.id2 < 128
