-- The numbers of the book by their bits in binary64. Each is named by its value.
use Rattle.std.specs.Prelude.{Float}
use Rattle.std.specs.Float.{binary64}
use Rattle.std.specs.Float.Ieee.{of_bits}

abbrev pub +0 : Float
+0 = of_bits binary64 0

abbrev pub -0 : Float
-0 = of_bits binary64 0x8000000000000000

abbrev pub 1/4 : Float
1/4 = of_bits binary64 0x3fd0000000000000

abbrev pub 1/2 : Float
1/2 = of_bits binary64 0x3fe0000000000000

abbrev pub -1/2 : Float
-1/2 = of_bits binary64 0xbfe0000000000000

abbrev pub 3/4 : Float
3/4 = of_bits binary64 0x3fe8000000000000

abbrev pub +1 : Float
+1 = of_bits binary64 0x3ff0000000000000

abbrev pub -1 : Float
-1 = of_bits binary64 0xbff0000000000000

abbrev pub 5/4 : Float
5/4 = of_bits binary64 0x3ff4000000000000

abbrev pub 3/2 : Float
3/2 = of_bits binary64 0x3ff8000000000000

abbrev pub +2 : Float
+2 = of_bits binary64 0x4000000000000000

abbrev pub -2 : Float
-2 = of_bits binary64 0xc000000000000000

abbrev pub +3 : Float
+3 = of_bits binary64 0x4008000000000000

abbrev pub -3 : Float
-3 = of_bits binary64 0xc008000000000000

abbrev pub +4 : Float
+4 = of_bits binary64 0x4010000000000000

abbrev pub -4 : Float
-4 = of_bits binary64 0xc010000000000000

abbrev pub -5 : Float
-5 = of_bits binary64 0xc014000000000000

abbrev pub +6 : Float
+6 = of_bits binary64 0x4018000000000000

abbrev pub -8 : Float
-8 = of_bits binary64 0xc020000000000000

abbrev pub +10 : Float
+10 = of_bits binary64 0x4024000000000000

abbrev pub +25 : Float
+25 = of_bits binary64 0x4039000000000000

abbrev pub +50 : Float
+50 = of_bits binary64 0x4049000000000000

abbrev pub +100 : Float
+100 = of_bits binary64 0x4059000000000000

abbrev pub -100 : Float
-100 = of_bits binary64 0xc059000000000000

abbrev pub 2^-499 : Float
2^-499 = of_bits binary64 0x20c0000000000000

abbrev pub 2^-498 : Float
2^-498 = of_bits binary64 0x20d0000000000000

abbrev pub 2^498 : Float
2^498 = of_bits binary64 0x5f10000000000000
