-- The arithmetic ops of the code are the model's.
-- Assumes nothing.
use Rattle.model.specs.Word.{Arithmetic as Computation, add, subtract, and, or, xor, less, multiply, divide, remainder}
use Rattle.arithmetic.specs.declared.Arithmetic.{Arithmetic}
use Rattle.arithmetic.specs.declared.Arithmetic.TheVariants.{Add, Subtract, And, Or, Xor, Less, Multiply, Divide, Remainder}

-- The model's op that an arithmetic op of the code is.
abbrev pub arithmetic_of : Arithmetic → Computation
arithmetic_of Add = add
arithmetic_of Subtract = subtract
arithmetic_of And = and
arithmetic_of Or = or
arithmetic_of Xor = xor
arithmetic_of Less = less
arithmetic_of Multiply = multiply
arithmetic_of Divide = divide
arithmetic_of Remainder = remainder
