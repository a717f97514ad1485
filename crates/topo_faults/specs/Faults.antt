-- The table of faults: what each is called, and how it is told.
use Rattle.std.specs.Prelude.{ℕ, List, ◌++◌, codes, decimal}
use Rattle.topo_faults.specs.declared.Fault.{Fault}
use Rattle.topo_faults.specs.declared.Fault.TheVariants.{NoVertex, SameEnds, NoPosition, NoEdge, BadKind, Cut, Full, Memory, NoRoute, BadPrice, BadLimits, TooMany}
use Rattle.topo_faults.specs.declared.Fault.TheVariants.{BadPath, BadCrossing, BadRotation, NotConnected, NotPlanar, WrongLength, UnevenFace, TooSteep, TargetNotZero, NotARoute, NotLeast, NotFirst}
use Rattle.topo_faults.specs.declared.Fault.TheVariants.{Mismatch, NoSeat, NoView, PassMissing, NotJson, TooLong, BadShape, BadVersion, BadNumber, ReadFault, WriteFault, WrongReply}
use Rattle.topo_faults.specs.declared.Fault.TheVariants.{WrongPicture, NothingToUndo, NoDart, NotOpen, Loop, NoEnd, TooLarge, NotPlanarized, OtherGraph, NotShown}

-- the number and the name
abbrev pub row : Fault → ℕ × List ℕ
row NoVertex = (1, codes "NoVertex")
row SameEnds = (2, codes "SameEnds")
row NoPosition = (3, codes "NoPosition")
row NoEdge = (4, codes "NoEdge")
row BadKind = (5, codes "BadKind")
row Cut = (6, codes "Cut")
row Full = (7, codes "Full")
row Memory = (8, codes "Memory")
row NoRoute = (9, codes "NoRoute")
row BadPrice = (10, codes "BadPrice")
row BadLimits = (11, codes "BadLimits")
row TooMany = (20, codes "TooMany")
row BadPath = (21, codes "BadPath")
row BadCrossing = (22, codes "BadCrossing")
row BadRotation = (23, codes "BadRotation")
row NotConnected = (24, codes "NotConnected")
row NotPlanar = (25, codes "NotPlanar")
row WrongLength = (30, codes "WrongLength")
row UnevenFace = (31, codes "UnevenFace")
row TooSteep = (32, codes "TooSteep")
row TargetNotZero = (33, codes "TargetNotZero")
row NotARoute = (34, codes "NotARoute")
row NotLeast = (35, codes "NotLeast")
row NotFirst = (36, codes "NotFirst")
row Mismatch = (40, codes "Mismatch")
row NoSeat = (41, codes "NoSeat")
row NoView = (42, codes "NoView")
row PassMissing = (43, codes "PassMissing")
row NotJson = (50, codes "NotJson")
row TooLong = (51, codes "TooLong")
row BadShape = (52, codes "BadShape")
row BadVersion = (53, codes "BadVersion")
row BadNumber = (54, codes "BadNumber")
row ReadFault = (55, codes "ReadFault")
row WriteFault = (56, codes "WriteFault")
row WrongReply = (60, codes "WrongReply")
row WrongPicture = (61, codes "WrongPicture")
row NothingToUndo = (70, codes "NothingToUndo")
row NoDart = (71, codes "NoDart")
row NotOpen = (72, codes "NotOpen")
row Loop = (80, codes "Loop")
row NoEnd = (81, codes "NoEnd")
row TooLarge = (82, codes "TooLarge")
row NotPlanarized = (83, codes "NotPlanarized")
row OtherGraph = (84, codes "OtherGraph")
row NotShown = (85, codes "NotShown")

abbrev pub number : Fault → ℕ
number fault = (row fault).0

abbrev pub name : Fault → List ℕ
name fault = (row fault).1

-- a fault is told by its number and its name
abbrev pub told : Fault → List ℕ
told fault = decimal (number fault) ++ (codes " " ++ name fault)

-- and with a value by that, too
abbrev pub told_with : Fault → List ℕ → List ℕ
told_with fault value = told fault ++ (codes " " ++ value)
